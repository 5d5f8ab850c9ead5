use Rattle.std.proofs.Common.{◌≡◌, ◌≤◌, ◌-◌, ℕ, List, ◌++◌, ◌∙◌, rules, arith, [], length, take, drop, sym, ap, subst, slice_range, append-nil}
use Rattle.std.proofs.lemmas.List.{take-take, take-append-le}
use Rattle.std.proofs.KnownBytes.{Consumes-nil}
use Rattle.line_feed.specs.Lines.{EndsFirstLine}
use Rattle.line_feed.specs.Feed.{Feed, IsFirstNewline}
use Rattle.line_feed.proofs.feed.LineFeed.find_end.Goals as goal

pub returns-in-Some-clause-bytes : goal.returns-in-Some-clause-bytes
returns-in-Some-clause-bytes g c = ([], Consumes-nil _, sym (append-nil _))

pub returns-in-Some-clause-stop : goal.returns-in-Some-clause-stop
returns-in-Some-clause-stop g c =
    subst (λ (f : Feed). EndsFirstLine f.buffered c.in-Some.at) c.self.view_is (rw c.in-Some.is at c.self.invariant.4)

pub fill-len-requires-clause-unended : goal.fill-len-requires-clause-unended
fill-len-requires-clause-unended g c =
    rw (c.deref_mut.ensures.value, c.move_to_start.ensures.prefix) (rw c.in_default.is at c.self.invariant.4)

-- what is written into the front of a buffer
written_front : (front old : List ℕ) (len end : ℕ) → end ≤ length front → length front ≤ len
    → slice_range (take len (front ++ drop (length front) old)) 0 end ≡ take end front
written_front front old len end within room =
    let all : end - 0 ≡ end = omega arith in
    ap (λ n. take n (take len (front ++ drop (length front) old))) all
    ∙ take-take end len (front ++ drop (length front) old) (omega (arith, within, room)) ∙ take-append-le end front (drop (length front) old) within

pub invariant_of-self : goal.invariant_of-self
invariant_of-self g c =
    let front = c.fill-len.new.buffer in
    let end = c.fill-len.result.len in (
      search rules,
      search rules,
      search rules,
      search rules,
      subst (λ l. IsFirstNewline l c.newline_of-self-inside.result)
          (sym (written_front front c.move_to_start.new.buffer.items c.move_to_start.new.buffer.len end c.fill-len.ensures.within (search rules)))
          (c.newline_of-self-inside.ensures (take end front) (length front) c.fill-len.ensures.stop),
    )
