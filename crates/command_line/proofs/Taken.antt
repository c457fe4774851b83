-- What the words ask for, by what came of reading them.
use Rattle.std.proofs.Common.{◌≡◌, ◌≢◌, ◌∙◌, ◌⊎◌, inl, inr, List, [], ◌∷◌, Option, None, true, if◌then◌else◌, ap, sym, subst, refl, rules}
use Rattle.std.specs.Prelude.{option_and_then}
use Rattle.clap.specs.Kinds.{HasKind, Kinds}
use Rattle.clap.specs.Values.{kind_of}
use Rattle.clap.specs.Walk.{is_empty}
use Rattle.clap.specs.Simple.{is_simple}
use Rattle.clap.specs.Words.{App, Row, Text, fault_of, is_simple_and_free, subcommand_of}
use Rattle.clap.specs.declared.error.Error.{Error}
use Rattle.clap.specs.declared.error.kind.ErrorKind.TheVariants as kind
use Rattle.command_line.specs.Asked.{asked, asked_by}
use Rattle.command_line.specs.Declaration.{declared}
use Rattle.command_line.specs.declared.command.Command.{Command}

abbrev ask : Option (Text × List Row) → Option (Command Text)
ask found = option_and_then (λ s. asked_by s.0 s.1) found

-- they were taken
pub taken : (app : App) (words : List Text) (x : Option (Command Text)) (found : Option (Text × List Row)) → app ≡ declared → (is_simple_and_free app ≡ true → fault_of app words ≡ []) → (is_simple app ≡ true → found ≡ subcommand_of app words) → x ≡ ask found → x ≡ asked words
taken app words x found is faults matches x_is =
    let none = subst (λ a. is_simple_and_free a ≡ true → fault_of a words ≡ []) is faults refl in
    let same = subst (λ a. is_simple a ≡ true → found ≡ subcommand_of a words) is matches refl in
    x_is ∙ ap ask same ∙ sym (ap (λ kinds. if is_empty kinds then ask (subcommand_of declared words) else None) none)

some_kind : (kinds : Kinds) (e : Error) (y : Option (Command Text)) → HasKind kinds e → kind_of e ≢ kind.OutOfMemory → None ≡ (if is_empty kinds then y else None)
some_kind [] e y (inl memory) other = absurd (other memory)
some_kind [] e y (inr none) other = absurd none
some_kind (k ∷ ks) e y has other = search rules

-- they were refused, and not for want of memory
pub refused : (app : App) (words : List Text) (e : Error) → app ≡ declared → (is_simple_and_free app ≡ true → HasKind (fault_of app words) e) → kind_of e ≢ kind.OutOfMemory → None ≡ asked words
refused app words e is kinds other =
    some_kind (fault_of declared words) e (ask (subcommand_of declared words)) (subst (λ a. is_simple_and_free a ≡ true → HasKind (fault_of a words) e) is kinds refl) other
