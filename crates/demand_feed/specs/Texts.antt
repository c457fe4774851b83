-- The words that say why a line is refused.
use Rattle.std.specs.Prelude.{ℕ, List, codes}
use Rattle.demand_feed.specs.declared.fault.LineFault.{LineFault}
use Rattle.demand_feed.specs.declared.fault.LineFault.TheVariants as line_fault
use Rattle.demand_feed.specs.declared.fault.BatchFault.{BatchFault}
use Rattle.demand_feed.specs.declared.fault.BatchFault.TheVariants as batch_fault
use Rattle.demand_feed.specs.declared.fault.Refusal.{Refusal}
use Rattle.demand_feed.specs.declared.fault.Refusal.TheVariants as refusal

-- the words for what is no line of a feed
abbrev pub line_words : LineFault → List ℕ
line_words line_fault.TooLong = codes "too long"
line_words line_fault.BadByte = codes "bad byte"
line_words line_fault.UnknownWord = codes "unknown word"
line_words line_fault.WrongCount = codes "wrong count"
line_words line_fault.BadNumber = codes "bad number"
line_words line_fault.BadAddress = codes "bad address"
line_words line_fault.BadHex = codes "bad hex"

-- the words for a change that the batch does not take
abbrev pub batch_words : BatchFault → List ℕ
batch_words batch_fault.UnknownName = codes "unknown name"
batch_words batch_fault.Range = codes "out of range"
batch_words batch_fault.Full = codes "batch full"

-- the words for a line that is refused
abbrev pub refusal_words : Refusal → List ℕ
refusal_words (refusal.Line fault) = line_words fault
refusal_words (refusal.Batch fault) = batch_words fault
