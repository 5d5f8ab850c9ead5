use Rattle.std.proofs.Common.{◌≡◌, ◌<◌, ◌≤◌, ◌+◌, ℕ, Bool, true, false, length, if◌then◌else◌, refl, sym, ap, subst, arith}
use Rattle.std.proofs.lemmas.Result.{on_ok_weaker}
use Rattle.list_order.proofs.slots.reserve_entry.Goals as goal

room-grows : (n m : ℕ) (was is : Bool) → n ≡ m → (was ≡ true → is ≡ true) → n + (if was then 1 else 0) ≤ m + (if is then 1 else 0)
room-grows n m true is same stays = subst (λ b. n + 1 ≤ m + (if b then 1 else 0)) (sym (stays refl)) (omega (arith, same))
room-grows n m false is same stays = omega (arith, same)

pub returns-clause-grows : goal.returns-clause-grows
returns-clause-grows c =
    let old = c.args.index.now in
    let new = c.reserve_one.new.self in
    room-grows (length old.0) (length new.0) old.1 new.1 (ap length (sym c.reserve_one.ensures.same)) c.reserve_one.ensures.grows

pub returns-clause-room : goal.returns-clause-room
returns-clause-room c =
    let new = c.reserve_one.new.self in
    on_ok_weaker c.reserve_one.result
    (λ room. subst (λ b. length new.0 < length new.0 + (if b then 1 else 0)) (sym room) (omega arith))
    c.reserve_one.ensures.room
