-- All that is told outside at one moment.
use Rattle.std.specs.Prelude.{◌≡◌, List, map}
use Rattle.outside.specs.Faults.{DeviceState}
use Rattle.outside.specs.Shelf.{Shelved}
use Rattle.outside.specs.Sink.{Written}
use Rattle.outside.specs.Source.{Fed}
use Rattle.outside.specs.declared.pace.PaceCall.{PaceCall}
use Rattle.drive.specs.Done.{LaneTold, StreamLaneTold}
use Rattle.drive.specs.Driven.{LentTold}
use Rattle.drive.specs.Told.{lent_of}
use Rattle.drive.specs.declared.lent.Lent.{Lent}
use Rattle.glb.specs.Outcome.{Outside}

-- what all outside tells at one moment: the files, and all that is lent to a session
pub record Surroundings : Type 0 where
  pub files : DeviceState Shelved
  pub lent : LentTold

-- the same, by what files, a feed, a further one, an output and a pace tell
abbrev pub told_over : {F S N K P G D M : Type 0}
    → (F → DeviceState Shelved) → (S → DeviceState Fed) → (N → DeviceState Fed)
    → (K → DeviceState Written) → (M → DeviceState (List PaceCall))
    → F → Lent S N K P G D M → StreamLaneTold → Surroundings
told_over shelved fed named written paced files l s =
    record { files = shelved files; lent = lent_of fed named written paced l s }

-- the same of each by itself: the files, the feed, the further feeds, both outputs, the lanes, the one for conversations, and the pace
abbrev pub all_told : {F S N K M : Type 0}
    → (F → DeviceState Shelved) → (S → DeviceState Fed) → (N → DeviceState Fed)
    → (K → DeviceState Written) → (M → DeviceState (List PaceCall))
    → F → S → List N → K → K → List LaneTold → StreamLaneTold → M → Surroundings
all_told shelved fed named written paced files feed more out maps lanes stream pace = record {
  files = shelved files;
  lent = record {
    feed = fed feed;
    more = map named more;
    out = written out;
    maps = written maps;
    pace = paced pace;
    lanes = lanes;
    stream = stream;
  };
}

-- the files and the output
abbrev pub outside_of : Surroundings → Outside
outside_of s = record { files = s.files; out = s.lent.out }

-- nothing but the output was touched
abbrev pub IsOutAlone : LentTold → LentTold → Type 0
IsOutAlone before after = after ≡ record before { out = after.out }
