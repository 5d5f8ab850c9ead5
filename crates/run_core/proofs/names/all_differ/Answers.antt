use Rattle.std.proofs.Common.{◌≡◌, ℕ, ◌+◌, ◌-◌, ◌<◌, ◌&&◌, Bool, not, map, List, [], drop, take, length, get_or, sym, ap, ◌∙◌, add-one, drop-cons}
use Rattle.std.specs.Borrow.{Bor}
use Rattle.std.specs.List.{list_any}
use Rattle.std.specs.Str.{bytes_eq}
use Rattle.std.proofs.lemmas.List.{take_rest}
use Rattle.run_core.proofs.Naming.{list_any-map}
use Rattle.run_core.specs.Names.{all_differ}
use Rattle.run_core.proofs.names.all_differ.Goals as goal

-- the texts from i on differ if the one at i is not behind it, and those behind it differ
all_differ-drop : (ts : List (Bor (List ℕ))) (i : ℕ) (d : Bor (List ℕ)) (b : Bool) → i < length ts
    → b ≡ list_any (λ s. bytes_eq (get_or ts i d).now s.now) (take (length ts - (i + 1)) (drop (i + 1) ts))
    → all_differ (map (λ s. s.now) (drop i ts)) ≡ (not b && all_differ (map (λ s. s.now) (drop (i + 1) ts)))
all_differ-drop ts i d b within e =
    let rest = drop (i + 1) ts in
    let x = (get_or ts i d).now in
    let same : b ≡ list_any (bytes_eq x) (map (λ s. s.now) rest) =
    e ∙ ap (list_any (λ s. bytes_eq x s.now)) (take_rest ts (i + 1)) ∙ list_any-map (bytes_eq x) (λ s. s.now) rest in
    rw (drop-cons ts i d within, same, add-one)

pub returns-then-is_among : goal.returns-then-is_among
returns-then-is_among c =
    let e = all_differ-drop c.args.texts.now c.loop-i.i (record { ref_ptr = (0, 0); now = [] }) c.is_among.result c.loop-i-test.true (rw (← c.as_bytes.ensures.value) c.is_among.ensures) in
    ap (λ b. not b && all_differ (map (λ s. s.now) (drop (c.loop-i.i + 1) c.args.texts.now))) (sym c.if-is_among.true) ∙ sym e ∙ c.loop-i.invariant

pub loop-i-preserved : goal.loop-i-preserved
loop-i-preserved c =
    let e = all_differ-drop c.args.texts.now c.loop-i.i (record { ref_ptr = (0, 0); now = [] }) c.is_among.result c.loop-i-test.true (rw (← c.as_bytes.ensures.value) c.is_among.ensures) in
    ap (λ b. not b && all_differ (map (λ s. s.now) (drop (c.loop-i.i + 1) c.args.texts.now))) (sym c.if-is_among.false) ∙ sym e ∙ c.loop-i.invariant
