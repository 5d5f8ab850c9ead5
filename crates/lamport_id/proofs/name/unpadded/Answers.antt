use Rattle.std.proofs.Common.{◌==◌, ap, sym, not, take, get_or, length, ◌∙◌, arith}
use Rattle.std.proofs.lemmas.Bool.{false_from_ne_true}
use Rattle.std.proofs.lemmas.List.Sums.{prefix_len_is}
use Rattle.std.proofs.lemmas.List.{take_all}
use Rattle.lamport_id.proofs.name.unpadded.Goals as goal

pub returns-in-Some : goal.returns-in-Some
returns-in-Some c =
    let bytes = c.args.bytes.now in
    let first = rw c.in-Some.is at c.memchr.ensures in
    ap (λ n. take n bytes)
    (sym
    (prefix_len_is (λ b. not (b == 0)) bytes c.in-Some.end 0 (omega (arith, first.0.high))
    (λ k below. ap not (false_from_ne_true (get_or bytes k 0 == 0) (first.0.before k (omega arith) below))) (λ inside. ap not first.1)))

pub returns-in-None : goal.returns-in-None
returns-in-None c =
    let bytes = c.args.bytes.now in
    let nowhere = rw c.in-None.is at c.memchr.ensures in
    sym (take_all (length bytes) bytes (omega arith))
    ∙ ap (λ n. take n bytes)
    (sym
    (prefix_len_is (λ b. not (b == 0)) bytes (length bytes) 0 (omega arith)
    (λ k below. ap not (false_from_ne_true (get_or bytes k 0 == 0) (nowhere k (omega arith) below))) (λ inside. absurd (omega arith))))
