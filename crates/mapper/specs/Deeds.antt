-- Inside this crate alone: what a deed comes to.
use Rattle.std.specs.Prelude.{◌≡◌, ◌≢◌, ℕ, [], Option}
use Rattle.map_model.specs.Batch.{IsBatch}
use Rattle.map_model.specs.Market.{Market}
use Rattle.mapper.specs.Control.{Course, before_commit}
use Rattle.mapper.specs.Items.{CommitWorks, with_marked}
use Rattle.mapper.specs.Sayings.{text_of}
use Rattle.mapper.specs.declared.deed.Deed.{Deed}
use Rattle.mapper.specs.declared.deed.Deed.TheVariants as deed

-- what a deed comes to, whose line has that mark
abbrev pub DeedWorks : Option ℕ → Deed → Course → Course → Type 0
DeedWorks mark deed.Nothing c d = d ≡ c
DeedWorks mark (deed.Say saying) c d = d ≡ with_marked mark c (text_of saying)
DeedWorks mark (deed.SayOfBatch saying) c d = d ≡ with_marked mark (before_commit c) (text_of saying)
DeedWorks mark (deed.Publish batch) c d = CommitWorks mark batch.now (before_commit c) d

-- what is to be published has changes, and all are of the instance
abbrev pub MayBeDone : Market → Deed → Type 0
MayBeDone m (deed.Publish batch) = IsBatch m batch.now × (batch.now ≢ [])
MayBeDone m _ = Unit {0}

-- how many versions it may lead to
abbrev pub raises : Deed → ℕ
raises (deed.Publish batch) = 1
raises _ = 0
