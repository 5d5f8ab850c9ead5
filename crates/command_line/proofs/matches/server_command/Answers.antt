use Rattle.std.proofs.Common.{ap₂, ◌∙◌}
use Rattle.std.proofs.lemmas.Result.{IfOk-weaker}
use Rattle.clap.specs.Words.{with_rule}
use Rattle.command_line.proofs.matches.server_command.Goals as goal

pub returns : goal.returns
returns c =
    let named = c.in_ok-arg.ensures.shape c.optional.ensures.local ∙ ap₂ with_rule c.in_ok-begun_command.ensures c.optional.ensures.rule in
    let behind = c.in_ok-arg-2.ensures.shape c.optional-2.ensures.local ∙ ap₂ with_rule named c.optional-2.ensures.rule in
    let durable = c.in_ok-arg-3.ensures.shape c.flag.ensures.local ∙ ap₂ with_rule behind c.flag.ensures.rule in
    let patient = c.in_ok-arg-4.ensures.shape c.optional-3.ensures.local ∙ ap₂ with_rule durable c.optional-3.ensures.rule in
    let until = c.in_ok-arg-5.ensures.shape c.flag-2.ensures.local ∙ ap₂ with_rule patient c.flag-2.ensures.rule in
    let drained = c.in_ok-arg-6.ensures.shape c.optional-4.ensures.local ∙ ap₂ with_rule until c.optional-4.ensures.rule in
    let watched = c.in_ok-arg-7.ensures.shape c.optional-5.ensures.local ∙ ap₂ with_rule drained c.optional-5.ensures.rule in
    IfOk-weaker c.arg-8.result _ _ (λ command adds. adds.shape c.documents_argument.ensures.local ∙ ap₂ with_rule watched c.documents_argument.ensures.rule) c.arg-8.ensures
