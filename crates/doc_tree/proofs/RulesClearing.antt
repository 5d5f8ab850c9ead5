-- The clearing of the rules, in facts.
use Rattle.std.proofs.Common.{◌≡◌, List, [], ◌∷◌, Bool, if◌then◌else◌, refl, sym, ap, ◌∙◌}
use Rattle.std.proofs.Math.Bool.{or-false}
use Rattle.doc_api.specs.Words.{Id, Key, Tagged, Delete, Op}
use Rattle.crdt_rules.specs.Same.{tagged_eq}
use Rattle.crdt_rules.specs.Context.{Context, node, child, register, counter, present, order, descend}
use Rattle.crdt_rules.specs.Facts.{Facts, facts}
use Rattle.crdt_rules.proofs.StepFacts.{facts_step}
use Rattle.doc_tree.specs.Changes.{clear_facts_at}
use Rattle.doc_tree.specs.Clearing.{clear_at}
use Rattle.doc_tree.proofs.Stepping.{delete_step}

module _ (deps : Id → Bool) (place : List Tagged) (k : Key) where
  -- a delete at the place
  abbrev deletion : Op
  deletion = record { id = record { counter = 0; replica = [] }; front = []; cursor = record { path = place; key = k }; mutation = Delete }

  -- on its way down it does nothing but clear
  deletion_clears : (path : List Tagged) (ctx : Context) → descend deps deletion path ctx ≡ clear_at deps path k ctx
  deletion_clears [] ctx = refl
  deletion_clears (t ∷ path) ctx =
      λ x.
      node
      (λ s. if tagged_eq t s then deletion_clears path (child ctx t) x else child ctx s)
      (register ctx)
      (counter ctx)
      (λ j i. or-false (present ctx j i) x)
      (order ctx)

  pub clear_at_facts : (ctx : Context) → facts (clear_at deps place k ctx) ≡ clear_facts_at (facts ctx) place k deps
  clear_at_facts ctx =
      ap facts (sym (deletion_clears place ctx)) ∙ facts_step ctx deletion deps ∙ sym (delete_step (facts ctx) deletion deps refl)

  -- facts that are cleared are those of a cleared context
  pub cleared_by_rules : (old new : Facts) → new ≡ clear_facts_at old place k deps
      → (ctx : Context) → facts ctx ≡ old → new ≡ facts (clear_at deps place k ctx)
  cleared_by_rules old new cleared ctx is = cleared ∙ ap (λ f. clear_facts_at f place k deps) (sym is) ∙ sym (clear_at_facts ctx)
