use Rattle.std.proofs.Common.{ap₂, ◌∙◌}
use Rattle.std.proofs.lemmas.Result.{IfOk-weaker}
use Rattle.clap.specs.Words.{with_rule}
use Rattle.command_line.proofs.matches.begun_command.Goals as goal

pub returns : goal.returns
returns c =
    let addressed = c.in_ok-arg.ensures.shape c.required_option.ensures.local ∙ ap₂ with_rule c.new.ensures.app c.required_option.ensures.rule in
    let filed = c.in_ok-arg-2.ensures.shape c.required_option-2.ensures.local ∙ ap₂ with_rule addressed c.required_option-2.ensures.rule in
    let counted = c.in_ok-arg-3.ensures.shape c.optional.ensures.local ∙ ap₂ with_rule filed c.optional.ensures.rule in
    IfOk-weaker c.arg-4.result _ _ (λ command adds. adds.shape c.optional-2.ensures.local ∙ ap₂ with_rule counted c.optional-2.ensures.rule) c.arg-4.ensures
