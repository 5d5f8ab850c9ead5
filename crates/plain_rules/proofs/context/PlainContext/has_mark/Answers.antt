use Rattle.std.proofs.Common.{◌∙◌, sym, ap}
use Rattle.crdt_rules.specs.Context.{present}
use Rattle.plain_rules.specs.Plain.{present_in}
use Rattle.plain_rules.proofs.Contexts.{context_of-out}
use Rattle.plain_rules.proofs.Marked.{marked-any}
use Rattle.plain_rules.proofs.context.PlainContext.has_mark.Goals as goal

pub returns-in-Some : goal.returns-in-Some
returns-in-Some c =
    let key = c.args.key.now in
    let id = c.args.id.now in
    c.is_marked.ensures
    ∙ marked-any key c.as_slice.result.now id
    ∙ ap (λ marks. present_in marks key id) c.as_slice.ensures.value
    ∙ ap (λ ctx. present ctx key id) (sym (context_of-out c.in-Some.context.now) ∙ c.in-Some.ensures)
