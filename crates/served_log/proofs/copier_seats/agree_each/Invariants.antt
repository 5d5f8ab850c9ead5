use Rattle.std.proofs.Common.{◌≡◌, ◌<◌, ℕ, get_or}
use Rattle.served_log.specs.Known.{no_book, nothing_read}
use Rattle.served_log.proofs.copier_seats.agree_each.Given as goal

abbrev pub invariant-loop-i : goal.invariant-loop-i
invariant-loop-i g l = (k : ℕ) → k < l.i → (get_or l.books k no_book).ids ≡ (get_or l.seats k nothing_read).ids
