-- What the copier has read is a prefix of the log, over each change.
use Rattle.std.proofs.Common.{◌≡◌, ℕ, ◌+◌, ◌-◌, ◌≤◌, List, [], ◌++◌, length, map, take, drop, Some, ap, sym, ◌∙◌, arith, append_assoc, append-nil, length-append, length-drop}
use Rattle.std.proofs.lemmas.List.{length-map, map-append, drop-map, take_rest}
use Rattle.std.proofs.Math.Seq.{drop-append_seam}
use Rattle.lamport_id.specs.declared.id.Id.{Id}
use Rattle.op_core.specs.Op.{Op}
use Rattle.share_ledger.specs.Begun.{Origin}
use Rattle.share_ledger.specs.Counters.{Counter, seat_counter, StoredIds, stored_ids}
use Rattle.doc_rules.specs.Seats.{operation_ids}
use Rattle.locked_doc.specs.Followed.{Copying, copying, Follows, HasUnopened, IsPrefix}

-- the copier of a new document has read nothing
pub follows_new : (number : ℕ) (log : List Op) (book : Counter) → book ≡ seat_counter number 0 0 [] → Follows number log book
follows_new number log book book_is =
    let none : [] ≡ book.ids = sym (ap (λ (b : Counter). b.ids) book_is) in
    record {
      counted = book_is ∙ (λ i. seat_counter number 0 (length (none i)) (none i));
      prefix = (operation_ids log, ap (λ (ids : List Id). ids ++ operation_ids log) none);
    }

-- its seat isn't opened, and what the document began with is stored
pub unopened_new : (number : ℕ) (origin : Origin) (log : List Op) (before after : Copying) (share : StoredIds) → before ≡ copying number [] [] → log ≡ origin.log
    → after ≡ copying before.number before.ids (before.stored ++ operation_ids log) → share ≡ stored_ids after.number after.stored
    → HasUnopened number origin (Some (after, share))
unopened_new number origin log before after share before_is begun after_is share_is =
    let all : after ≡ copying number [] (operation_ids origin.log) =
    after_is ∙ (λ i. copying (before_is i).number (before_is i).ids ((before_is i).stored ++ operation_ids (begun i))) in (
      ap (λ (c : Copying). c.number) all,
      ap (λ (c : Copying). c.stored) all,
      share_is ∙ ap (λ (c : Copying). stored_ids c.number c.stored) all,
    )

-- and the log grows
pub follows_grown : (number : ℕ) (log after new : List Op) (book : Counter) → after ≡ log ++ new → Follows number log book → Follows number after book
follows_grown number log after new book grown is = record {
  counted = is.counted;
  prefix = (
    is.prefix.0 ++ operation_ids new,
    ap operation_ids grown ∙ map-append (λ (op : Op). op.id) log new ∙ ap (λ (ids : List Id). ids ++ operation_ids new) is.prefix.1
        ∙ append_assoc book.ids is.prefix.0 (operation_ids new),
  );
}

-- it has read the whole log
pub follows_all : (number : ℕ) (log : List Op) (before after : Counter) → Follows number log before
    → after ≡ seat_counter before.number before.seat (length log) (operation_ids log) → Follows number log after
follows_all number log before after is all =
    let at : seat_counter before.number before.seat (length log) (operation_ids log) ≡ seat_counter number 0 (length log) (operation_ids log) =
    ap (λ (b : Counter). seat_counter b.number b.seat (length log) (operation_ids log)) is.counted in
    let ids : operation_ids log ≡ after.ids = sym (ap (λ (b : Counter). b.ids) all) in
    let many : length log ≡ length (operation_ids log) = sym (length-map log (λ (op : Op). op.id)) in
    record {
      counted = all ∙ at ∙ ap (λ n. seat_counter number 0 n (operation_ids log)) many ∙ (λ i. seat_counter number 0 (length (ids i)) (ids i));
      prefix = ([], ids ∙ sym (append-nil after.ids));
    }

-- it has read no more than is logged
pub read_within : (log : List Op) (ids : List Id) → IsPrefix ids (operation_ids log) → length ids ≤ length log
read_within log ids is = omega (arith, ap length is.1, length-append ids is.0, length-map log (λ (op : Op). op.id))

-- a counter of what it has read, with the rest of the log
pub read_rest : (log : List Op) (b : Counter) (read : ℕ) → read ≡ b.count → b.count ≡ length b.ids → IsPrefix b.ids (operation_ids log)
    → seat_counter b.number b.seat (b.count + length (take (length log - read) (drop read log))) (b.ids ++ map (λ (op : Op). op.id) (take (length log - read) (drop read log)))
    ≡ seat_counter b.number b.seat (length log) (operation_ids log)
read_rest log b read count counted is =
    let rest : take (length log - read) (drop read log) ≡ drop read log = take_rest log read in
    let within = read_within log b.ids is in
    let all : b.count + length (drop read log) ≡ length log = omega (arith, count, counted, within, length-drop read log) in
    let behind : operation_ids (drop read log) ≡ is.0 =
    sym (drop-map (λ (op : Op). op.id) read log) ∙ ((λ i. drop ((count ∙ counted) i) (is.1 i)) ∙ drop-append_seam b.ids is.0) in
    let ids : b.ids ++ operation_ids (drop read log) ≡ operation_ids log = ap (λ (xs : List Id). b.ids ++ xs) behind ∙ sym is.1 in
    ap (λ (ops : List Op). seat_counter b.number b.seat (b.count + length ops) (b.ids ++ operation_ids ops)) rest
    ∙ (λ i. seat_counter b.number b.seat (all i) (ids i))
