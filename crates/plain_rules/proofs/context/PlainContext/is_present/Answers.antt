use Rattle.std.proofs.Common.{◌≡◌, ◌∙◌, sym, ap}
use Rattle.crdt_rules.specs.Context.{present}
use Rattle.lamport_id.specs.declared.id.Id.{Id}
use Rattle.crdt_rules.specs.Facts.{context_at}
use Rattle.plain_rules.specs.Plain.{present_in, context_of}
use Rattle.plain_rules.proofs.Contexts.{context_of-out}
use Rattle.plain_rules.proofs.Marked.{marked-some, some-marked}
use Rattle.plain_rules.proofs.context.PlainContext.is_present.Goals as goal

pub returns-in-Some : goal.returns-in-Some
returns-in-Some c =
    let key = c.args.key.now in
    let marks = c.as_slice.result.now in
    let here : (i : Id) → present_in marks key i ≡ present (context_at (context_of c.args.self.now) c.args.path.now) key i =
    λ i. ap (λ l. present_in l key i) c.as_slice.ensures.value
    ∙ ap (λ ctx. present ctx key i) (sym (context_of-out c.in-Some.context.now) ∙ c.in-Some.ensures) in (
      λ h. let some = marked-some key marks (sym c.is_key_marked.ensures ∙ h) in (some.0, sym (here some.0) ∙ some.1),
      λ some. c.is_key_marked.ensures ∙ some-marked key marks some.0 (here some.0 ∙ some.1),
    )
