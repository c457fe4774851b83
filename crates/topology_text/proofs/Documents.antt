-- The bytes of a document.
use Rattle.std.proofs.Common.{◌≡◌, ℕ, List, length, false, map, Option, None, Some, Ok, Err, [], ◌∷◌, subst, refl, ap, sym, ◌∙◌}
use Rattle.std.specs.Str.{IsUtf8, is_utf8}
use Rattle.std.proofs.lemmas.Str.{IsUtf8-from_is_utf8, is_utf8-from_IsUtf8}
use Rattle.std.proofs.lemmas.Bool.{false_from_ne_true}
use Rattle.toml.specs.Data.{Data, Members}
use Rattle.toml.specs.Parse.{parse_document}
use Rattle.topology_text.specs.Faults.{checked, document, faults_of, faults_on, found_or, reading_of}
use Rattle.topology_text.specs.Plan.{ArePrefixes, Plan}
use Rattle.topology_text.specs.Prefixes.{all_prefixes}
use Rattle.topology_text.specs.Topology.{IsSound, owned, plan_of}
use Rattle.topology_text.specs.declared.prefixes.PrefixAt.{PrefixAt}
use Rattle.topology_text.proofs.Clean.{sound}
use Rattle.topology_text.proofs.SoundPrefixes.{prefixes_sound}
use Rattle.topology_text.specs.Names.{Entries, entries_of}
use Rattle.topology_text.specs.Code.{visit}
use Rattle.topology_text.specs.Walk.{first, walk}
use Rattle.topology_text.specs.declared.visited.TableAt.{TableAt}
use Rattle.topology_text.specs.declared.fault.TopologyFault.{TopologyFault}

pub document_of_text : (bytes text : List ℕ) → IsUtf8 bytes → text ≡ bytes → document bytes ≡ parse_document text
unfolding document
document_of_text bytes text utf8 same = rw (is_utf8-from_IsUtf8 bytes utf8, same) refl

pub document_of_none : (bytes : List ℕ) → ¬ (IsUtf8 bytes) → document bytes ≡ None
unfolding document
document_of_none bytes not = let no : is_utf8 bytes ≡ false = false_from_ne_true (is_utf8 bytes) (λ h. not (IsUtf8-from_is_utf8 bytes h)) in rw no refl

-- what is known of the code's walk, index, prefixes and table
pub record IsRead (d : Entries) (ts tables : List TableAt) (ps prefixes : List PrefixAt) (top : Members) (doc : Option Members) : Type 0 where
  pub index : d ≡ entries_of top
  pub slice : ts ≡ tables
  pub walked : map visit tables ≡ walk top
  pub prefix_slice : ps ≡ prefixes
  pub prefixed : prefixes ≡ all_prefixes (map visit tables)
  pub table : doc ≡ Some top

-- the faults that the checks look for are the table's
pub same_faults : (d : Entries) (ts tables : List TableAt) (ps prefixes : List PrefixAt) (top : Members) (doc : Option Members) → IsRead d ts tables ps prefixes top doc → faults_on d (map visit ts) ≡ faults_of top
unfolding faults_of
same_faults d ts tables ps prefixes top doc r = rw (r.index, r.slice, r.walked) refl

-- and so are the prefixes
pub same_prefixes : (d : Entries) (ts tables : List TableAt) (ps prefixes : List PrefixAt) (top : Members) (doc : Option Members) → IsRead d ts tables ps prefixes top doc → ps ≡ all_prefixes (walk top)
same_prefixes d ts tables ps prefixes top doc r = r.prefix_slice ∙ r.prefixed ∙ ap all_prefixes r.walked

no_faults : (faults : List TopologyFault) (u : Unit {0}) → checked faults ≡ Ok u → faults ≡ []
no_faults [] u h = refl
no_faults (f ∷ fs) u h = cc

-- a table without faults is read as what it says
pub reads_ok : (d : Entries) (ts tables : List TableAt) (ps prefixes : List PrefixAt) (top : Members) (doc : Option Members) (u : Unit {0}) (plan : Plan) → IsRead d ts tables ps prefixes top doc
    → Ok u ≡ checked (faults_on d (map visit ts)) → plan ≡ plan_of d ps → reading_of doc ≡ Ok plan
reads_ok d ts tables ps prefixes top doc u plan r ok is =
    let none : faults_of top ≡ [] = sym (same_faults d ts tables ps prefixes top doc r) ∙ no_faults (faults_on d (map visit ts)) u (sym ok) in
    let same : plan ≡ plan_of (entries_of top) (all_prefixes (walk top)) = is ∙ ap (λ e. plan_of e ps) r.index ∙ ap (plan_of (entries_of top)) (same_prefixes d ts tables ps prefixes top doc r) in
    ap reading_of r.table ∙ ap (λ fs. found_or (plan_of (entries_of top) (all_prefixes (walk top))) (first fs)) none ∙ ap Ok (sym same)

-- one with faults as its first
found_first : (plan : Plan) (faults : List TopologyFault) (e : TopologyFault) → Err e ≡ checked faults → found_or plan (first faults) ≡ Err e
found_first plan [] e h = cc
found_first plan (f ∷ fs) e h = cc

pub reads_err : (d : Entries) (ts tables : List TableAt) (ps prefixes : List PrefixAt) (top : Members) (doc : Option Members) (e : TopologyFault) → IsRead d ts tables ps prefixes top doc
    → Err e ≡ checked (faults_on d (map visit ts)) → reading_of doc ≡ Err e
reads_err d ts tables ps prefixes top doc e r err =
    ap reading_of r.table ∙ found_first (plan_of (entries_of top) (all_prefixes (walk top))) (faults_of top) e (err ∙ ap checked (same_faults d ts tables ps prefixes top doc r))

-- and its entries and prefixes are sound
pub reads_sound : (d : Entries) (ts tables : List TableAt) (ps prefixes : List PrefixAt) (top : Members) (doc : Option Members) (u : Unit {0}) → IsRead d ts tables ps prefixes top doc → Ok u ≡ checked (faults_on d (map visit ts)) → IsSound d
reads_sound d ts tables ps prefixes top doc u r ok =
    let none : faults_of top ≡ [] = sym (same_faults d ts tables ps prefixes top doc r) ∙ no_faults (faults_on d (map visit ts)) u (sym ok) in
    subst IsSound (sym r.index) (sound top none)

pub reads_prefixes : (d : Entries) (ts tables : List TableAt) (ps prefixes : List PrefixAt) (top : Members) (doc : Option Members) (u : Unit {0}) → IsRead d ts tables ps prefixes top doc → Ok u ≡ checked (faults_on d (map visit ts))
    → ArePrefixes (map owned ps) (length d.groups)
reads_prefixes d ts tables ps prefixes top doc u r ok =
    let none : faults_of top ≡ [] = sym (same_faults d ts tables ps prefixes top doc r) ∙ no_faults (faults_on d (map visit ts)) u (sym ok) in
    let there : ArePrefixes (map owned (all_prefixes (walk top))) (length (entries_of top).groups) = prefixes_sound top none in
    subst (λ e. ArePrefixes (map owned ps) (length {A = Data} e.groups)) (sym r.index) (subst (λ xs. ArePrefixes (map owned xs) (length (entries_of top).groups)) (sym (same_prefixes d ts tables ps prefixes top doc r)) there)
