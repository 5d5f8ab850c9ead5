-- A plain context, one level at a time.
use Rattle.std.proofs.Common.{◌≡◌}
use Rattle.crdt_rules.specs.Context.{Context}
use Rattle.plain_rules.specs.Plain.{context_of, contexts_of, level, whole}
use Rattle.plain_rules.specs.declared.context.PlainContext.{PlainContext}
use Rattle.plain_rules.specs.declared.context.PlainContext.TheOpen.{PlainContext-F}
use Rattle.plain_rules.specs.declared.context.PlainContext.TheViews.{out-PlainContext, roll-PlainContext}
use Rattle.plain_rules.specs.declared.context.PlainContext.TheFolds.{fold-roll-PlainContext, fold_out-PlainContext}

-- one level, as a context
abbrev pub level_of : PlainContext-F PlainContext → Context
level_of x = whole (contexts_of x.children.items) x.scalars.items x.numbers.items x.marks.items x.order.items

pub context_of-roll : (x : PlainContext-F PlainContext) → context_of (roll-PlainContext x) ≡ level_of x
context_of-roll = fold-roll-PlainContext Context level

pub context_of-out : (p : PlainContext) → context_of p ≡ level_of (out-PlainContext p)
context_of-out = fold_out-PlainContext Context level
