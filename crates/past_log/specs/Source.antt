-- What a source tells after a read, or an opening under a name.
use Rattle.std.specs.Prelude.{ℕ, List, true, false, [], ◌∷◌, ◌++◌, length, take, None}
use Rattle.outside.specs.Source.{Fed, shorter}
use Rattle.outside.specs.declared.source.Read.{Read}
use Rattle.outside.specs.declared.source.Read.TheVariants.{Got, End, Failed}
use Rattle.past_log.specs.declared.source.NameEvent.{NameEvent}
use Rattle.past_log.specs.declared.source.SourceEvent.{SourceEvent}

-- a source that was asked nothing, and tells not what is left
abbrev pub new_source : Fed
new_source = record { left = None; pieces = []; shortest = None; is_ended = false; names = [] }

-- a source after a read that was handed a buffer, which it left so
abbrev pub after_read : Read → List ℕ → Fed → Fed
after_read (Got n) buffer fed = record fed { pieces = fed.pieces ++ take n buffer ∷ []; shortest = shorter fed.shortest (length buffer) }
after_read End buffer fed = record fed { shortest = shorter fed.shortest (length buffer); is_ended = true }
after_read Failed buffer fed = record fed { shortest = shorter fed.shortest (length buffer) }

abbrev pub noted : SourceEvent → Fed → Fed
noted event fed = after_read event.read event.buffer.now fed

-- a source after an opening under a name
abbrev pub named : NameEvent → Fed → Fed
named event fed = record fed { names = fed.names ++ event.name.now ∷ [] }
