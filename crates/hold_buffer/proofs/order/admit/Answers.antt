use Rattle.std.proofs.Common.{◌≡◌, Some, sym, subst}
use Rattle.slab.specs.Slab.{Slab, get}
use Rattle.doc_api.specs.Words.{Op}
use Rattle.hold_buffer.proofs.order.admit.Goals as goal

pub returns-in-Ok-await_ids-clause-kept : goal.returns-in-Ok-await_ids-clause-kept
returns-in-Ok-await_ids-clause-kept c i k o held there =
    c.in-Ok-await_ids.ensures.kept i k o (subst (λ (s : Slab Op). get s k ≡ Some o) (sym c.in-Ok.ensures.slots) held) there

pub returns-in-Err-await_ids-clause-kept : goal.returns-in-Err-await_ids-clause-kept
returns-in-Err-await_ids-clause-kept c i k o held there =
    c.in-Err-await_ids.ensures.kept i k o (subst (λ (s : Slab Op). get s k ≡ Some o) (sym c.in-Ok.ensures.slots) held) there
