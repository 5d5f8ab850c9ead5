use Rattle.std.proofs.Common.{◌≡◌, ◌∙◌, ◌<◌, ◌≤◌, List, length, true, false, sym, subst, ap, arith}
use Rattle.std.proofs.lemmas.Bool.Decides.{nat_tests}
use Rattle.doc_api.specs.Words.{Id, name_cmp}
use Rattle.doc_rules.specs.Sorted.{IsRising}
use Rattle.hold_buffer.specs.Missing.{left_of, is_left}
use Rattle.hold_buffer.proofs.Names.{none_left, absent_left, cleared_here, cleared_left, cleared_count, cleared_rising}
use Rattle.hold_buffer.proofs.missing.Missing.remove.Goals as goal

pub overflow_sub-self : goal.overflow_sub-self
overflow_sub-self c =
    let ids = c.self.inside.ids.items in
    let id = c.args.id.now in
    let place = rw c.deref.ensures.value at c.in-Some.ensures in
    let low : id.counter < 4294967296 = c.if-id-lt-LOGGED.true in
    let left : is_left id ≡ true = grind (arith, nat_tests) in
    let fewer = cleared_count ids id c.in-Some.at c.self.invariant.rising place.0 (sym (place.1 id)) left in
    omega (arith, c.self.invariant.counted, fewer)

pub invariant_of-self : goal.invariant_of-self
invariant_of-self c =
    let ids = c.self.inside.ids.items in
    let id = c.args.id.now in
    let place = rw c.deref.ensures.value at c.in-Some.ensures in
    let low : id.counter < 4294967296 = c.if-id-lt-LOGGED.true in
    let left : is_left id ≡ true = grind (arith, nat_tests) in
    let here = cleared_here ids c.clear.new.ids.items id c.in-Some.at place.1 c.clear.ensures in
    let fewer = cleared_count ids id c.in-Some.at c.self.invariant.rising place.0 (sym (place.1 id)) left in
    record {
      rising = subst (IsRising name_cmp (λ (i : Id). i.replica)) (sym here) (cleared_rising ids id c.in-Some.at c.self.invariant.rising place.0 (sym (place.1 id)) left);
      counted = let now = ap (λ (l : List Id). length (left_of l)) here in omega (arith, c.self.invariant.counted, fewer, now);
    }

pub returns-then-id-lt-LOGGED : goal.returns-then-id-lt-LOGGED
returns-then-id-lt-LOGGED c =
    let ids = c.self.inside.ids.items in
    let id = c.args.id.now in
    let place = rw c.deref.ensures.value at c.in-Some.ensures in
    let low : id.counter < 4294967296 = c.if-id-lt-LOGGED.true in
    let left : is_left id ≡ true = grind (arith, nat_tests) in
    let here = cleared_here ids c.clear.new.ids.items id c.in-Some.at place.1 c.clear.ensures in
    rw (← c.self.view_is) (ap left_of here ∙ cleared_left ids id c.in-Some.at c.self.invariant.rising place.0 (sym (place.1 id)) left)

pub returns-else-id-lt-LOGGED : goal.returns-else-id-lt-LOGGED
returns-else-id-lt-LOGGED c =
    let high : 4294967296 ≤ c.args.id.now.counter = c.if-id-lt-LOGGED.false in
    let logged : is_left c.args.id.now ≡ false = grind (arith, nat_tests) in
    rw (← c.self.view_is) (none_left c.self.inside.ids.items c.args.id.now logged)

pub clear-requires-clause-left : goal.clear-requires-clause-left
clear-requires-clause-left c d =
    let id = c.args.id.now in
    let place = rw c.deref.ensures.value at c.in-Some.ensures in
    let low : id.counter < 4294967296 = c.if-id-lt-LOGGED.true in
    let left : is_left id ≡ true = grind (arith, nat_tests) in
    ap is_left (place.1 d) ∙ left

pub returns-in_default : goal.returns-in_default
returns-in_default c =
    let none = rw c.deref.ensures.value at c.in_default.ensures in
    rw (← c.self.view_is) (absent_left c.self.inside.ids.items c.args.id.now none)
