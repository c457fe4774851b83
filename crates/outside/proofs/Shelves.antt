-- What one load does to a shelf in memory.
use Rattle.std.proofs.Common.{◌≡◌, ℕ, List, [], ◌∷◌, ◌++◌, Bool, true, false, Option, None, Some, if◌then◌else◌, Result, Ok, Err, Vec, IfSome, refl, ap}
use Rattle.std.specs.declared.alloc.Global.{Global}
use Rattle.outside.specs.declared.file.File.{File}
use Rattle.outside.specs.declared.shelf.LoadFault.{LoadFault}
use Rattle.outside.specs.declared.shelf.LoadFault.TheVariants.{TooLong, Failed, NoMemory}
use Rattle.outside.specs.MemShelf.{has_octets, held, load_of}
use Rattle.outside.specs.Shelf.{IsAnswer, IsLoad, IsNoted, Load}

-- a load that was noted whole
noted_whole : (load : Load) (before after : List Load) (result : Result (Vec ℕ Global) LoadFault) → after ≡ before ++ load ∷ [] → IsNoted load before after result
noted_whole load before after (Ok bytes) h = h
noted_whole load before after (Err TooLong) h = h
noted_whole load before after (Err Failed) h = (1, h)
noted_whole load before after (Err NoMemory) h = h

-- octets that came are those that are held
are_held : (came : Bool) (octets : Option (List ℕ)) → IfSome (if came then octets else None) (λ bytes. octets ≡ Some bytes)
are_held true (Some bytes) = refl
are_held true None = tt
are_held false octets = tt

-- a load that was noted with the octets that its file holds, where they came
pub loaded : (files later : List File) (name : List ℕ) (limit : ℕ) (result : Result (Vec ℕ Global) LoadFault) (before after : List Load)
    → IsAnswer (if has_octets result then held files name else None) limit result → after ≡ before ++ load_of name limit (held files name) result ∷ [] → later ≡ files
    → IsLoad name limit result (record { holds = Some (held files); loads = before }) (record { holds = Some (held later); loads = after })
loaded files later name limit result before after answer noted same = record {
  octets = if has_octets result then held files name else None;
  answer = answer;
  noted = noted_whole (load_of name limit (held files name) result) before after result noted;
  holds = ap (λ (fs : List File). Some (held fs)) same;
  held = are_held (has_octets result) (held files name);
}
