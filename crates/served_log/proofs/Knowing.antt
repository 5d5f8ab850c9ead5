-- What the stored log has is a prefix of what a copier has read.
use Rattle.std.proofs.Common.{arith, ap, ap₂, ◌+◌, ◌++◌, ◌∷◌, ◌≡◌, ◌≢◌, ◌<◌, ◌⊎◌, inl, inr, Result, Ok, Err, IfOk, IfErr, length, List, [], ℕ, zero, suc, take, drop, set, get_or, ◌∙◌, subst, sym, refl, zero-lt-suc, below_more, append_assoc, append-nil, length-append, length-set, take-append-drop, get_or-set_same, get_or-set_other}
use Rattle.std.proofs.lemmas.List.{drop-map, get_or_append_left, get_or_default, get_or_push, length-map, length_push, map-append, nil_from_length, take-map}
use Rattle.std.proofs.Math.Seq.{drop-append_seam}
use Rattle.std.specs.Borrow.{Bor}
use Rattle.share_ledger.specs.Begun.{Origin}
use Rattle.json_scalar.specs.Refusal.{UnlessMemory}
use Rattle.json_scalar.specs.declared.refusal.Refusal.{Refusal}
use Rattle.doc_api.specs.Words.{Id, Op}
use Rattle.doc_rules.specs.Document.{Document, tail}
use Rattle.doc_rules.specs.Seats.{operation_ids}
use Rattle.locked_doc.specs.Followed.{Followed, Copying, copying, IsPrefix}
use Rattle.server_core.specs.Sums.{AreBooksFrom}
use Rattle.stored_log.specs.Docs.{Doc, add_batch, log_of}
use Rattle.stored_log.specs.Limits.{most_rows}
use Rattle.stored_log.specs.declared.fault.Fault.{Fault}
use Rattle.stored_log.specs.declared.fault.Fault.TheVariants.{Memory, Store}
use Rattle.stored_log.proofs.DocLemmas.{batch_added, batch_others}
use Rattle.served_log.specs.Batches.{AddsMany, AddsOf}
use Rattle.served_log.specs.Known.{AllDiffer, AreKnown, AreNumbered, AreReadFrom, EndsWith, HoldsPrefix, KnowsRows, StaysKnown, no_book, nothing_read}

-- ---- prefixes

pub prefix_trans : {X : Type 0} (a b c : List X) → IsPrefix a b → IsPrefix b c → IsPrefix a c
prefix_trans a b c (more, is) (rest, same) = (more ++ rest, same ∙ ap (λ xs. xs ++ rest) is ∙ append_assoc a more rest)

-- one that is as long is the whole
pub prefix_whole : {X : Type 0} (a b : List X) → IsPrefix a b → length a ≡ length b → a ≡ b
prefix_whole a b (rest, is) long =
    let many : length b ≡ length a + length rest = ap length is ∙ length-append a rest in
    let none : length rest ≡ 0 = omega (arith, many, long) in
    sym (is ∙ ap (λ xs. a ++ xs) (nil_from_length rest none) ∙ append-nil a)

-- the next ones of the whole behind a prefix
pub prefix_more : {X : Type 0} (m from : ℕ) (a b next : List X) → IsPrefix a b → from ≡ length a → next ≡ take m (drop from b) → IsPrefix (a ++ next) b
prefix_more m from a b next (rest, is) behind read =
    let there : drop from b ≡ rest = ap₂ (λ n xs. drop n xs) behind is ∙ drop-append_seam a rest in
    let first : next ≡ take m rest = read ∙ ap (take m) there in (
      drop m rest,
      is ∙ ap (λ xs. a ++ xs) (sym (take-append-drop m rest)) ∙ sym (append_assoc a (take m rest) (drop m rest)) ∙ ap (λ xs. (a ++ xs) ++ drop m rest) (sym first),
    )

-- ---- one document

-- what was read behind so many operations, once all that is logged was read
pub read_there : (from : ℕ) (d : Document) (read : List Id) (r : Result (List Op) Refusal) → UnlessMemory r (Ok (tail from most_rows d)) → read ≡ operation_ids d.replica.log
    → IfOk r (λ entries. AreReadFrom from entries read)
read_there from d read (Ok ops) unless all =
    let is : Ok ops ≡ Ok (tail from most_rows d) = unless (λ none. cc) in
    let ops_are : ops ≡ tail from most_rows d = cc in
    ap operation_ids ops_are ∙ sym (take-map (λ (op : Op). op.id) most_rows (drop from d.replica.log))
    ∙ ap (take most_rows) (sym (drop-map (λ (op : Op). op.id) from d.replica.log)) ∙ ap (λ ids. take most_rows (drop from ids)) (sym all)
read_there from d read (Err cause) unless all = tt

pub known_grown : (docs : List Doc) (name : List ℕ) (before after : List Id) → IsPrefix before after → HoldsPrefix docs name before → HoldsPrefix docs name after
known_grown docs name before after grows known = prefix_trans (operation_ids (log_of name docs)) before after known grows

known_added : (docs : List Doc) (name : List ℕ) (ops : List Op) (from : ℕ) (before after : List Id) → from ≡ length (log_of name docs) → AreReadFrom from ops after → IsPrefix before after
    → HoldsPrefix docs name before → HoldsPrefix (add_batch name ops docs) name after
known_added docs name ops from before after behind read grows known =
    let rows : List Id = operation_ids (log_of name docs) in
    let many : from ≡ length rows = behind ∙ sym (length-map (log_of name docs) (λ (op : Op). op.id)) in
    let added : operation_ids (log_of name (add_batch name ops docs)) ≡ rows ++ operation_ids ops =
    ap operation_ids (batch_added name ops docs) ∙ map-append (λ (op : Op). op.id) (log_of name docs) ops in
    subst (λ ids. IsPrefix ids after) (sym added) (prefix_more most_rows from rows after (operation_ids ops) (known_grown docs name before after grows known) many read)

-- the log of a document after its next entries were added
pub log_next : {name : List ℕ} {many : ℕ} {old new : List Doc} {entries : List Op} → (adds : AddsMany name many old new) × (adds.next.ops ≡ entries) → log_of name new ≡ log_of name old ++ entries
log_next {name = n} {old = old} (adds, these) = ap (log_of n) adds.next.added ∙ batch_added n adds.next.ops old ∙ ap (λ ops. log_of n old ++ ops) these

-- so it ends with them
pub ends_next : {name : List ℕ} {many : ℕ} {old new : List Doc} {entries : List Op} → (adds : AddsMany name many old new) × (adds.next.ops ≡ entries) → EndsWith new name entries
ends_next {name = n} {old = old} adds = (log_of n old, log_next adds)

-- and is longer by so many
pub long_next : {name : List ℕ} {many from told : ℕ} {old new : List Doc} {entries : List Op} → told ≡ from → from ≡ length (log_of name old) → (adds : AddsMany name many old new) × (adds.next.ops ≡ entries)
    → told + length entries ≡ length (log_of name new)
long_next {name = n} {old = old} {entries = entries} same behind adds =
    omega (arith, same, behind, ap length (log_next adds), length-append (log_of n old) entries)

-- the entries that were read next were added
prefix_next : {name : List ℕ} {many from : ℕ} {old new : List Doc} {entries next : List Op} (before after : List Id) → from ≡ length (log_of name old) → entries ≡ next → AreReadFrom from next after
    → IsPrefix before after → (adds : AddsMany name many old new) × (adds.next.ops ≡ entries) → HoldsPrefix old name before → HoldsPrefix new name after
prefix_next {name = n} {from = k} {old = old} before after behind read_is read grows (adds, these) known =
    subst (λ docs. HoldsPrefix docs n after) (sym adds.next.added)
    (known_added old n adds.next.ops k before after behind (subst (λ ops. AreReadFrom k ops after) (sym (these ∙ read_is)) read) grows known)

-- and they count as stored
pub known_next : {name : List ℕ} {many from : ℕ} {old new : List Doc} {entries next : List Op} (before mid after : Copying) → from ≡ length (log_of name old) → entries ≡ next → AreReadFrom from next mid.ids
    → IsPrefix before.ids mid.ids → mid.stored ≡ before.stored → after ≡ copying mid.number mid.ids (mid.stored ++ operation_ids entries)
    → (adds : AddsMany name many old new) × (adds.next.ops ≡ entries) → KnowsRows old name before → KnowsRows new name after
known_next {name = n} {old = old} {new = new} {entries = entries} before mid after behind read_is read grows same is adds known = record {
  prefix = subst (λ ids. HoldsPrefix new n ids) (sym (ap (λ (c : Copying). c.ids) is)) (prefix_next before.ids mid.ids behind read_is read grows adds known.prefix);
  stored = ap (λ (c : Copying). c.stored) is ∙ ap (λ ids. ids ++ operation_ids entries) (same ∙ known.stored)
      ∙ sym (ap operation_ids (log_next adds) ∙ map-append (λ (op : Op). op.id) (log_of n old) entries);
}

-- nothing was added
pub known_still : (docs : List Doc) (name : List ℕ) (before after : Copying) → IsPrefix before.ids after.ids → after.stored ≡ before.stored → KnowsRows docs name before → KnowsRows docs name after
known_still docs name before after grows same known = record { prefix = known_grown docs name before.ids after.ids grows known.prefix; stored = same ∙ known.stored }

-- the log stayed as it was, up to a fault of the store
pub known_kept : {L X : Type 0} (docs : L → List Doc) (name : List ℕ) (old new : L) (before after : Copying) (r : Result X Fault) (e : Fault) → r ≡ Err e → IsPrefix before.ids after.ids
    → after.stored ≡ before.stored → (e ≡ Store) ⊎ (new ≡ old) → (r ≡ Err Store) ⊎ (KnowsRows (docs old) name before → KnowsRows (docs new) name after)
known_kept docs name old new before after r e is grows same (inl store) = inl (is ∙ ap Err store)
known_kept docs name old new before after r e is grows same (inr unchanged) =
    inr (λ known. subst (λ l. KnowsRows (docs l) name after) (sym unchanged) (known_still (docs old) name before after grows same known))

-- ---- all documents

-- what one document's batch leaves of the others
pub others_stay : {L : Type 0} (origin : ℕ → Origin) (number : ℕ) (docs : L → List Doc) (name : List ℕ) (r : Result ℕ Fault) (old new : L) → IfOk r (λ count. 0 < count → AddsOf origin number name count (docs old) (docs new))
    → (r ≡ Ok 0 → new ≡ old) → IfErr r (λ e. (e ≡ Store) ⊎ (new ≡ old)) → (r ≡ Err Store) ⊎ ((other : List ℕ) → name ≢ other → log_of other (docs new) ≡ log_of other (docs old))
others_stay origin number docs name (Ok zero) old new some none err = inr (λ other apart. ap (λ l. log_of other (docs l)) (none refl))
others_stay origin number docs name (Ok (suc n)) old new some none err =
    let adds = (some (zero-lt-suc n)).adds.next in
    inr (λ other apart. ap (log_of other) adds.added ∙ batch_others name other adds.ops (docs old) apart)
others_stay origin number docs name (Err e) old new some none (inl store) = inl (ap Err store)
others_stay origin number docs name (Err e) old new some none (inr same) = inr (λ other apart. ap (λ l. log_of other (docs l)) same)

-- the seat in one place, and the others
known_at : (names : List (List ℕ)) (old new : List Doc) (seats : List Copying) (i : ℕ) (name : List ℕ) (seat : Copying) → i < length names → name ≡ get_or names i []
    → ((other : List ℕ) → name ≢ other → log_of other new ≡ log_of other old) → (KnowsRows old name (get_or seats i nothing_read) → KnowsRows new name seat)
    → AllDiffer names → AreKnown old names seats → (k : ℕ) → k < length names → Dec (k ≡ i) → KnowsRows new (get_or names k []) (get_or (set seats i seat) k nothing_read)
known_at names old new seats i name seat within named others here differ known k less (yes same) =
    let inside : i < length seats = omega (arith, within, known.many) in
    let it : get_or (set seats i seat) k nothing_read ≡ seat = ap (λ j. get_or (set seats i seat) j nothing_read) same ∙ get_or-set_same seats i seat nothing_read inside in
    let name_is : name ≡ get_or names k [] = named ∙ ap (λ j. get_or names j []) (sym same) in
    let was : KnowsRows old name (get_or seats i nothing_read) = subst (λ n. KnowsRows old n (get_or seats i nothing_read)) (sym named) (known.each i within) in
    subst (λ n. KnowsRows new n (get_or (set seats i seat) k nothing_read)) name_is (subst (λ (f : Copying). KnowsRows new name f) (sym it) (here was))
known_at names old new seats i name seat within named others here differ known k less (no away) =
    let it : get_or (set seats i seat) k nothing_read ≡ get_or seats k nothing_read = get_or-set_other seats i k seat nothing_read away in
    let apart : name ≢ get_or names k [] = λ is. away (sym (differ i k within less (sym named ∙ is))) in
    let rows : log_of (get_or names k []) new ≡ log_of (get_or names k []) old = others (get_or names k []) apart in
    let before = known.each k less in
    subst (λ (f : Copying). KnowsRows new (get_or names k []) f) (sym it) (record {
      prefix = subst (λ (log : List Op). IsPrefix (operation_ids log) (get_or seats k nothing_read).ids) (sym rows) before.prefix;
      stored = before.stored ∙ ap operation_ids (sym rows);
    })

-- up to a fault of the store
pub known_behind : {A : Type 0} (names : List (List ℕ)) (old new : List Doc) (seats : List Copying) (i : ℕ) (name : List ℕ) (was seat : Copying) → i < length names → i < length seats
    → name ≡ get_or names i [] → was ≡ get_or seats i was → A ⊎ ((other : List ℕ) → name ≢ other → log_of other new ≡ log_of other old)
    → A ⊎ (KnowsRows old name was → KnowsRows new name seat) → A ⊎ StaysKnown names old seats new (set seats i seat)
known_behind names old new seats i name was seat within inside named read (inl store) here = inl store
known_behind names old new seats i name was seat within inside named read (inr others) (inl store) = inl store
known_behind names old new seats i name was seat within inside named read (inr others) (inr here) =
    let it : was ≡ get_or seats i nothing_read = read ∙ get_or_default seats i was nothing_read inside in
    let there : KnowsRows old name (get_or seats i nothing_read) → KnowsRows new name seat = subst (λ (f : Copying). KnowsRows old name f → KnowsRows new name seat) it here in
    inr (λ differ known. record {
      many = length-set seats i seat ∙ known.many;
      each = λ k less. known_at names old new seats i name seat within named others there differ known k less (native.Mathlib.Decide.ℕ_discrete k i);
    })

-- the seat in this place has its number
pub number_at : (seats : List Copying) (i : ℕ) (seat : Copying) → AreNumbered seats → i < length seats → seat ≡ get_or seats i seat → seat.number ≡ i
number_at seats i seat numbered inside read =
    ap (λ (f : Copying). f.number) (read ∙ get_or_default seats i seat nothing_read inside) ∙ numbered i inside

set_at : (seats : List Copying) (i : ℕ) (seat : Copying) → AreNumbered seats → seat.number ≡ i → (k : ℕ) → k < length seats → Dec (k ≡ i)
    → (get_or (set seats i seat) k nothing_read).number ≡ k
set_at seats i seat numbered is k less (yes same) =
    let inside : i < length seats = omega (arith, less, same) in
    ap (λ j. (get_or (set seats i seat) j nothing_read).number) same ∙ (ap (λ (f : Copying). f.number) (get_or-set_same seats i seat nothing_read inside) ∙ (is ∙ sym same))
set_at seats i seat numbered is k less (no away) = ap (λ (f : Copying). f.number) (get_or-set_other seats i k seat nothing_read away) ∙ numbered k less

pub numbered_set : (seats : List Copying) (i : ℕ) (seat : Copying) → AreNumbered seats → seat.number ≡ i → AreNumbered (set seats i seat)
numbered_set seats i seat numbered is = λ k less.
    let inside : k < length seats = omega (arith, less, length-set seats i seat) in
    set_at seats i seat numbered is k inside (native.Mathlib.Decide.ℕ_discrete k i)

push_at : (seats : List Copying) (seat : Copying) → AreNumbered seats → seat.number ≡ length seats → (k : ℕ) → k < length (seats ++ seat ∷ []) → Dec (k ≡ length seats)
    → (get_or (seats ++ seat ∷ []) k nothing_read).number ≡ k
push_at seats seat numbered is k less (yes same) =
    ap (λ (f : Copying). f.number) (get_or_push seats seat nothing_read k (sym same)) ∙ (is ∙ sym same)
push_at seats seat numbered is k less (no away) =
    let inside : k < length seats = omega (arith, less, length_push seats seat, away) in
    ap (λ (f : Copying). f.number) (get_or_append_left seats (seat ∷ []) nothing_read k inside) ∙ numbered k inside

pub numbered_push : (seats : List Copying) (seat : Copying) → AreNumbered seats → seat.number ≡ length seats → AreNumbered (seats ++ seat ∷ [])
numbered_push seats seat numbered is = λ k less. push_at seats seat numbered is k less (native.Mathlib.Decide.ℕ_discrete k (length seats))

-- ---- one copying after another

pub stays_known : (names : List (List ℕ)) (old mid new : List Doc) (before between after : List Copying) → StaysKnown names old before mid between → StaysKnown names mid between new after
    → StaysKnown names old before new after
stays_known names old mid new before between after first next = λ differ known. next differ (first differ known)

pub stays_until : {A : Type 0} (names : List (List ℕ)) (old mid new : List Doc) (before between after : List Copying) → StaysKnown names old before mid between
    → A ⊎ StaysKnown names mid between new after → A ⊎ StaysKnown names old before new after
stays_until names old mid new before between after first (inl store) = inl store
stays_until names old mid new before between after first (inr next) = inr (stays_known names old mid new before between after first next)

-- what is kept over one call, and up to a fault over the next
pub then_until : {A P Q R : Type 0} → (P → Q) → A ⊎ (Q → R) → A ⊎ (P → R)
then_until first (inl fault) = inl fault
then_until first (inr next) = inr (λ p. next (first p))

-- what holds up to a fault of the store, of a call that returned another value
pub same_fault : {X Y A : Type 0} (r : Result Y Fault) (e : Fault) → r ≡ Err e → (◌≡◌ {A = Result X Fault} (Err e) (Err Store)) ⊎ A → (r ≡ Err Store) ⊎ A
same_fault r e is (inl store) = let same : e ≡ Store = cc in inl (is ∙ ap Err same)
same_fault r e is (inr a) = inr a

-- and where there was none
pub no_fault : {X A : Type 0} (x : X) → (◌≡◌ {A = Result X Fault} (Ok x) (Err Store)) ⊎ A → A
no_fault x (inl same) = absurd cc
no_fault x (inr a) = a

pub no_store : {X A : Type 0} (r : Result X Fault) → r ≡ Err Memory → (r ≡ Err Store) ⊎ A → A
no_store {X = X} r lacked (inl store) = let both : ◌≡◌ {A = Result X Fault} (Err Memory) (Err Store) = sym lacked ∙ store in absurd cc
no_store r lacked (inr a) = a

-- the same documents
pub stays_named : {A : Type 0} (names shelved : List (List ℕ)) (old new : List Doc) (before after : List Copying) → names ≡ shelved → A ⊎ StaysKnown names old before new after
    → A ⊎ StaysKnown shelved old before new after
stays_named names shelved old new before after same (inl store) = inl store
stays_named names shelved old new before after same (inr stays) = inr (subst (λ ns. StaysKnown ns old before new after) same stays)

-- ---- the end

-- the book in this place has its number
book_at : (number : ℕ) (books : List Followed) → AreBooksFrom number books → (k : ℕ) (book : Followed) → k < length books → book ≡ get_or books k book → book.number ≡ number + k
book_at number [] are k book less is = absurd (omega arith)
book_at number (first ∷ books) are zero book less is = ap (λ (b : Followed). b.number) is ∙ (are.0 ∙ omega arith)
book_at number (first ∷ books) are (suc k) book less is =
    let later : book.number ≡ suc number + k = book_at (suc number) books are.1 k book (omega arith) is in omega (arith, later)

-- the book in this place has the number of the seat there
pub same_number : (books : List Followed) (seats : List Copying) (i : ℕ) (book : Followed) (seat : Copying) → AreBooksFrom 0 books → AreNumbered seats → i < length books → i < length seats → book ≡ get_or books i book
    → seat ≡ get_or seats i seat → book.number ≡ seat.number
same_number books seats i book seat are numbered less inside book_is seat_is =
    let first : book.number ≡ 0 + i = book_at 0 books are i book less book_is in
    omega (arith, first, number_at seats i seat numbered inside seat_is)

pub same_ids : (books : List Followed) (seats : List Copying) (i : ℕ) (book : Followed) (seat : Copying) → i < length books → i < length seats → book ≡ get_or books i book → seat ≡ get_or seats i seat → book.ids ≡ seat.ids
    → (get_or books i no_book).ids ≡ (get_or seats i nothing_read).ids
same_ids books seats i book seat less inside book_is seat_is agreed =
    sym (ap (λ (f : Followed). f.ids) (book_is ∙ get_or_default books i book no_book less)) ∙ (agreed ∙ ap (λ (f : Copying). f.ids) (seat_is ∙ get_or_default seats i seat nothing_read inside))

pub agreed_more : (books : List Followed) (seats : List Copying) (i : ℕ) → (get_or books i no_book).ids ≡ (get_or seats i nothing_read).ids
    → ((k : ℕ) → k < i → (get_or books k no_book).ids ≡ (get_or seats k nothing_read).ids)
    → (k : ℕ) → k < i + 1 → (get_or books k no_book).ids ≡ (get_or seats k nothing_read).ids
agreed_more books seats i here before = λ k less. below_more (λ j. (get_or books j no_book).ids ≡ (get_or seats j nothing_read).ids) i before here k less

-- ---- a start

-- the seats of one document more, which were just opened there
pub one_seated : (docs : List Doc) (names : List (Bor (List ℕ))) (i : ℕ) (name : Bor (List ℕ)) (seats new : List Copying) (seat : Copying) → i < length names
    → length seats ≡ i → new ≡ seats ++ seat ∷ [] → seat.ids ≡ operation_ids (log_of (get_or names i name).now docs)
    → seat.stored ≡ operation_ids (log_of (get_or names i name).now docs)
    → ((k : ℕ) → k < i → KnowsRows docs (get_or names k name).now (get_or seats k nothing_read))
    → (k : ℕ) → k < i + 1 → KnowsRows docs (get_or names k name).now (get_or new k nothing_read)
one_seated docs names i name seats new seat within long pushed read stored before k less = go (native.Mathlib.Decide.ℕ_discrete k i)
  where
    go : Dec (k ≡ i) → KnowsRows docs (get_or names k name).now (get_or new k nothing_read)
    go (yes same) =
        let it : get_or new k nothing_read ≡ seat = ap (λ fs. get_or fs k nothing_read) pushed ∙ get_or_push seats seat nothing_read k (long ∙ sym same) in
        let ids : (get_or new k nothing_read).ids ≡ operation_ids (log_of (get_or names k name).now docs) =
        ap (λ (f : Copying). f.ids) it ∙ (read ∙ ap (λ j. operation_ids (log_of (get_or names j name).now docs)) (sym same)) in record {
          prefix = ([], ids ∙ sym (append-nil (operation_ids (log_of (get_or names k name).now docs))));
          stored = ap (λ (f : Copying). f.stored) it ∙ (stored ∙ ap (λ j. operation_ids (log_of (get_or names j name).now docs)) (sym same));
        }
    go (no away) =
        let inside : k < length seats = omega (arith, less, long, away) in
        let early : k < i = omega (arith, inside, long) in
        let it : get_or new k nothing_read ≡ get_or seats k nothing_read =
        ap (λ fs. get_or fs k nothing_read) pushed ∙ get_or_append_left seats (seat ∷ []) nothing_read k inside in
        subst (λ (f : Copying). KnowsRows docs (get_or names k name).now f) (sym it) (before k early)
