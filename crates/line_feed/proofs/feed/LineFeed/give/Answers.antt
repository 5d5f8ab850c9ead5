use Rattle.std.proofs.Common.{◌≡◌, ℕ, ◌+◌, ◌-◌, ◌<◌, ◌≤◌, Bool, false, List, ◌++◌, ◌∷◌, rules, arith, take, drop, slice_range, sym, ap, ◌∙◌, subst, length-take}
use Rattle.std.proofs.lemmas.List.{take-take, drop-take, drop-drop}
use Rattle.line_feed.specs.Lines.{HasNoNewline, EndsFirstLine}
use Rattle.line_feed.specs.Feed.{Feed, Advances}
use Rattle.line_feed.specs.declared.feed.Outcome.TheVariants.{Line}
use Rattle.line_feed.specs.Limits.{line_room}
use Rattle.line_feed.proofs.feed.LineFeed.give.Goals as goal

-- the line up to a newline in the buffer, and what is buffered behind it
gives_line : (items : List ℕ) (start end at line_end rest : ℕ) (ended : Bool) → EndsFirstLine (slice_range items start end) at
    → end ≤ line_room → line_end ≡ start + at → rest ≡ line_end + 1 → ended ≡ false
    → Advances (slice_range items start end) Line (record { line = slice_range items start line_end; buffered = slice_range items rest end; ended = ended })
gives_line items start end at line_end rest ended p room e f still =
    let d = drop start items in
    let n = end - start in
    let within : at < n = omega (arith, p.within, length-take n d) in
    let line : take at (take n d) ≡ slice_range items start line_end =
    let k : at ≡ line_end - start = omega arith in take-take at n d (omega arith) ∙ ap (λ k. take k d) k in
    let buffered : drop (at + 1) (take n d) ≡ slice_range items rest end =
    let k : n ≡ (at + 1) + (end - rest) = omega arith in
    let m : start + (at + 1) ≡ rest = omega arith in
    ap (λ k. drop (at + 1) (take k d)) k ∙ drop-take (at + 1) (end - rest) d
    ∙ ap (take (end - rest)) (drop-drop (at + 1) start items ∙ ap (λ k. drop k items) m) in
    let split : take n d ≡ slice_range items start line_end ++ 10 ∷ slice_range items rest end =
    p.split ∙ ap (λ l. l ++ 10 ∷ drop (at + 1) (take n d)) line ∙ ap (λ l. slice_range items start line_end ++ 10 ∷ l) buffered in
    rw still (split, subst HasNoNewline line p.first, omega (arith, length-take (line_end - start) d))

pub returns-in-Newline-clause-advances : goal.returns-in-Newline-clause-advances
returns-in-Newline-clause-advances c =
    let a = c.self.inside in
    let at = c.in-Newline.at in
    let ends : EndsFirstLine c.args.self.now.buffered at = rw c.in-Newline.is at c.requires.stops in
    let here : EndsFirstLine (slice_range a.buffer.items a.start a.end) at = subst (λ (f : Feed). EndsFirstLine f.buffered at) (sym c.self.view_is) ends in
    let still : a.ended ≡ false = ap (λ (f : Feed). f.ended) c.self.view_is ∙ c.requires.«open» in
    let new : Feed = record { line = slice_range a.buffer.items a.start (a.start + at); buffered = slice_range a.buffer.items (a.start + at + 1) a.end; ended = a.ended } in
    subst (λ (f : Feed). Advances f.buffered Line new) c.self.view_is
    (gives_line a.buffer.items a.start a.end at (a.start + at) (a.start + at + 1) a.ended here (search rules) (omega arith) (omega arith) still)
