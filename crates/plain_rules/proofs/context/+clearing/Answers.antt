use Rattle.std.proofs.Common.{rules, ◌∙◌, sym, ap, true, not, filter, slice_index_or, ◌≤◌, length, subst}
use Rattle.std.proofs.lemmas.List.{length-map}
use Rattle.crdt_rules.specs.Context.{clear_all}
use Rattle.plain_rules.specs.Plain.{is_in, context_of, contexts_of, clear_child, clear_each, whole}
use Rattle.plain_rules.specs.declared.context.PlainContext.TheViews.{out-PlainContext, out-roll-PlainContext}
use Rattle.plain_rules.proofs.Contexts.{context_of-roll, context_of-out}
use Rattle.plain_rules.proofs.Clearing.{whole-clear_all}
use Rattle.plain_rules.proofs.Mapped.{mapped_step, first_mapped-all, written}
use Rattle.plain_rules.proofs.context.+clearing.Goals as goal

pub clear_all-returns : goal.clear_all-returns
clear_all-returns t c =
    let before = out-PlainContext c.args.context.now in
    let deps = is_in c.args.dependencies.now in
    let scalars = c.clear_values.ensures ∙ ap (λ y. filter (λ e. not (deps e.1)) y.scalars.items) (out-roll-PlainContext _) in
    let numbers = c.clear_values-2.ensures ∙ ap (λ y. filter (λ e. not (deps e.1)) y.numbers.items) (out-roll-PlainContext _) ∙ ap (λ y. filter (λ e. not (deps e.1)) y.numbers.items) (out-roll-PlainContext _) in
    let below =
    c.clear_children.ensures
    ∙ ap (λ l. clear_each (λ _. true) deps (contexts_of l))
    (c.deref_mut.ensures.value ∙ ap (λ y. y.children.items) (out-roll-PlainContext _) ∙ ap (λ y. y.children.items) (out-roll-PlainContext _) ∙ ap (λ y. y.children.items) (out-roll-PlainContext _)) in
    let fits =
    written (λ x. (x.0, context_of x.1)) (clear_child (λ _. true) deps) before.children.len c.clear_children.new.children before.children.items _ below before.children.ok.0 in
    rw (context_of-roll _, out-roll-PlainContext _, out-roll-PlainContext _, out-roll-PlainContext _)
    ((λ i. whole ((ap contexts_of fits ∙ below) i) (scalars i) (numbers i) (c.clear_marks.ensures i) before.order.items)
    ∙ whole-clear_all deps (contexts_of before.children.items) before.scalars.items before.numbers.items before.marks.items before.order.items
    ∙ ap (clear_all deps) (sym (context_of-out c.args.context.now)))

pub clear_children-loop-i-preserved : goal.clear_children-loop-i-preserved
clear_children-loop-i-preserved t c =
    let child = slice_index_or c.loop-i.children c.loop-i.i c.index-children-i.result in (
      (search rules, λ k d h. search rules),
      mapped_step (λ x. (x.0, context_of x.1)) (clear_child (λ _. true) (is_in c.args.dependencies.now)) c.loop-i.children c.loop-i.i c.index-children-i.result _ _
          (search rules) c.loop-i.invariant.1 (ap (λ x. (child.0, x)) c.clear_all.ensures),
    )

pub clear_children-returns : goal.clear_children-returns
clear_children-returns t c =
    c.loop-i.invariant.1
    ∙ first_mapped-all (clear_child (λ _. true) (is_in c.args.dependencies.now)) c.loop-i.i (contexts_of c.args.children.now)
    (let within : length c.args.children.now ≤ c.loop-i.i = search rules in
    subst (λ n. n ≤ c.loop-i.i) (sym (length-map c.args.children.now (λ x. (x.0, context_of x.1)))) within)
