-- What a load of a file leaves noted.
use Rattle.std.proofs.Common.{◌≡◌, ℕ, List, [], ◌∷◌, ◌++◌, Option, Result, Ok, Err, Vec, refl}
use Rattle.std.specs.declared.alloc.Global.{Global}
use Rattle.outside.specs.Shelf.{IsAnswer, IsLoad, IsNoted, Load}
use Rattle.outside.specs.declared.shelf.LoadFault.{LoadFault}
use Rattle.outside.specs.declared.shelf.LoadFault.TheVariants.{TooLong, Failed, NoMemory}
use Rattle.past_log.specs.Shelf.{of_loads}

noted_whole : (load : Load) (before after : List Load) (result : Result (Vec ℕ Global) LoadFault) → after ≡ before ++ load ∷ [] → IsNoted load before after result
noted_whole load before after (Ok bytes) h = h
noted_whole load before after (Err TooLong) h = h
noted_whole load before after (Err Failed) h = (1, h)
noted_whole load before after (Err NoMemory) h = h

pub loaded : (name : List ℕ) (limit : ℕ) (octets : Option (List ℕ)) (result : Result (Vec ℕ Global) LoadFault) (before after : List Load)
    → IsAnswer octets limit result → after ≡ before ++ record { name = name; limit = limit; octets = octets } ∷ [] → IsLoad name limit result (of_loads before) (of_loads after)
loaded name limit octets result before after answer noted = record {
  octets = octets;
  answer = answer;
  noted = noted_whole (record { name = name; limit = limit; octets = octets }) before after result noted;
  holds = refl;
  held = tt;
}
