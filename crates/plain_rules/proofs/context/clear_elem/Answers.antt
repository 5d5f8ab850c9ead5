use Rattle.std.proofs.Common.{◌∙◌, sym, ap, not, ◌&&◌, filter}
use Rattle.crdt_rules.specs.Same.{key_eq}
use Rattle.crdt_rules.specs.Context.{clear_elem}
use Rattle.plain_rules.specs.Plain.{is_in, context_of, contexts_of, clear_child, clear_each, whole}
use Rattle.plain_rules.specs.declared.context.PlainContext.TheViews.{out-PlainContext, out-roll-PlainContext}
use Rattle.plain_rules.proofs.Contexts.{context_of-roll, context_of-out}
use Rattle.plain_rules.proofs.Clearing.{whole-clear_elem}
use Rattle.plain_rules.proofs.Mapped.{written}
use Rattle.plain_rules.proofs.context.clear_elem.Goals as goal

pub returns : goal.returns
returns c =
    let before = out-PlainContext c.args.context.now in
    let key = c.args.key.now in
    let deps = is_in c.args.dependencies.now in
    let scalars = c.clear_values_at.ensures ∙ ap (λ y. filter (λ e. not (key_eq e.0 key && deps e.1)) y.scalars.items) (out-roll-PlainContext _) in
    let numbers = c.clear_values_at-2.ensures ∙ ap (λ y. filter (λ e. not (key_eq e.0 key && deps e.1)) y.numbers.items) (out-roll-PlainContext _) ∙ ap (λ y. filter (λ e. not (key_eq e.0 key && deps e.1)) y.numbers.items) (out-roll-PlainContext _) in
    let below =
    c.clear_children_at.ensures
    ∙ ap (λ l. clear_each (λ k. key_eq k key) deps (contexts_of l))
    (c.deref_mut.ensures.value ∙ ap (λ y. y.children.items) (out-roll-PlainContext _) ∙ ap (λ y. y.children.items) (out-roll-PlainContext _) ∙ ap (λ y. y.children.items) (out-roll-PlainContext _)) in
    let fits =
    written (λ x. (x.0, context_of x.1)) (clear_child (λ k. key_eq k key) deps) before.children.len c.clear_children_at.new.children before.children.items _ below before.children.ok.0 in
    rw (context_of-roll _, out-roll-PlainContext _, out-roll-PlainContext _, out-roll-PlainContext _)
    ((λ i. whole ((ap contexts_of fits ∙ below) i) (scalars i) (numbers i) (c.clear_marks_at.ensures i) before.order.items)
    ∙ whole-clear_elem deps key (contexts_of before.children.items) before.scalars.items before.numbers.items before.marks.items before.order.items
    ∙ ap (clear_elem deps key) (sym (context_of-out c.args.context.now)))
