use Rattle.std.proofs.Common.{◌≡◌, ◌∙◌, ap, ap₂, true, codes}
use Rattle.std.proofs.lemmas.Result.{IfOk-weaker}
use Rattle.clap.specs.Words.{App, app_of, new_app, with_subcommand}
use Rattle.clap.specs.Simple.{app_of_fields, on_top, Shape}
use Rattle.clap.specs.declared.builder.command.Command.{Command}
use Rattle.clap.specs.declared.builder.command.Command.TheOpen.{Command-F}
use Rattle.command_line.proofs.declared.declared.Goals as goal

-- the settings of the whole command line
abbrev set : App → App
set = on_top (λ s. record s { subcommand_required = true; disable_help_flag = true; disable_help_subcommand = true })

abbrev top : App → Shape
top a = a.top

abbrev required : Command-F Command → Command-F Command
required f = record f { subcommand_required = true }

abbrev no_flag : Command-F Command → Command-F Command
no_flag f = record f { disable_help_flag = true }

abbrev no_word : Command-F Command → Command-F Command
no_word f = record f { disable_help_subcommand = true }

pub returns : goal.returns
returns c =
    let set_is : app_of c.disable_help_subcommand.result ≡ set (new_app (codes "glb")) =
    ap app_of_fields (c.disable_help_subcommand.ensures ∙ ap no_word (c.disable_help_flag.ensures ∙ ap no_flag c.subcommand_required.ensures)) ∙ ap set c.new.ensures.app in
    let one = c.in_ok-subcommand.ensures.shape c.in_ok-command.ensures.local ∙ ap₂ with_subcommand set_is (ap top c.in_ok-command.ensures.app) in
    let two = c.in_ok-subcommand-2.ensures.shape c.in_ok-command-2.ensures.local ∙ ap₂ with_subcommand one (ap top c.in_ok-command-2.ensures.app) in
    let three = c.in_ok-subcommand-3.ensures.shape c.in_ok-command-3.ensures.local ∙ ap₂ with_subcommand two (ap top c.in_ok-command-3.ensures.app) in
    let four = c.in_ok-subcommand-4.ensures.shape c.in_ok-command-4.ensures.local ∙ ap₂ with_subcommand three (ap top c.in_ok-command-4.ensures.app) in
    let five = c.in_ok-subcommand-5.ensures.shape c.in_ok-serve.ensures.local ∙ ap₂ with_subcommand four (ap top c.in_ok-serve.ensures.app) in
    let six = c.in_ok-subcommand-6.ensures.shape c.in_ok-command-5.ensures.local ∙ ap₂ with_subcommand five (ap top c.in_ok-command-5.ensures.app) in
    record {
      app = IfOk-weaker c.subcommand-7.result _ _ (λ m h. h.shape c.in_ok-command-6.ensures.local ∙ ap₂ with_subcommand six (ap top c.in_ok-command-6.ensures.app)) c.subcommand-7.ensures;
    }
