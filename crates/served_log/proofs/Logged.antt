-- The stored log has just the operations that are logged.
use Rattle.std.proofs.Common.{arith, ap, ◌≡◌, ◌<◌, ◌∙◌, subst, sym, refl, ℕ, suc, List, [], ◌∷◌, length, map, get_or, Option}
use Rattle.std.proofs.lemmas.List.{get_or-map, length-map}
use Rattle.share_ledger.specs.Begun.{Origin}
use Rattle.doc_api.specs.Words.{Id, Op}
use Rattle.doc_rules.specs.Seats as seats
use Rattle.doc_rules.specs.Seats.{Seat, operation_ids}
use Rattle.locked_doc.specs.Followed.{Followed, Copying}
use Rattle.locked_doc.specs.declared.gather.Totals.{Totals}
use Rattle.server_core.specs.Sums.{AreTotals, AreTotalsFrom, ids_read, later_ends}
use Rattle.stored_log.specs.Docs.{Doc, log_of}
use Rattle.served_log.specs.Known.{AllDiffer, AreKnown, HoldsPrefix, no_book, nothing_read}
use Rattle.served_log.specs.Totals.{AreLoggedFrom, AreStored, IsStored}
use Rattle.served_log.proofs.Knowing.{prefix_trans, prefix_whole}

-- a prefix of what is logged, as long as that
rows_are : {origin : ℕ → Origin} {number : ℕ} {given : List Seat} {read : List Id} {t : Totals} (last : List Doc) (name : List ℕ) (of : AreTotals origin number given read t) → IsStored last name t
    → HoldsPrefix last name read → operation_ids (log_of name last) ≡ operation_ids of.document.replica.log
rows_are {read = read} {t = t} last name of stored known =
    let log : List Op = of.document.replica.log in
    let rows : List Op = log_of name last in
    let logged : t.logged ≡ length log = ap (λ (sums : seats.Totals). sums.logged) of.added in
    let long : length (operation_ids rows) ≡ length (operation_ids log) =
    length-map rows (λ (op : Op). op.id) ∙ (sym stored.0 ∙ (logged ∙ sym (length-map log (λ (op : Op). op.id)))) in
    prefix_whole (operation_ids rows) (operation_ids log) (prefix_trans (operation_ids rows) read (operation_ids log) known of.followed) long

pub logged_from : (origin : ℕ → Origin) (number : ℕ) (sessions : List (List (Option Seat))) (all : List (List ℕ)) (last : List Doc) (names : List (List ℕ)) (read : List (List Id)) (totals : List Totals)
    → AreTotalsFrom origin number sessions read totals → AreStored last names totals → ((k : ℕ) → k < length names → AllDiffer all → HoldsPrefix last (get_or names k []) (get_or read k []))
    → AreLoggedFrom origin number sessions all last names totals
logged_from origin number sessions all last [] read [] added stored known = tt
logged_from origin number sessions all last [] read (t ∷ totals) added stored known = absurd stored
logged_from origin number sessions all last (name ∷ names) read [] added stored known = absurd stored
logged_from origin number sessions all last (name ∷ names) [] (t ∷ totals) added stored known = absurd added
logged_from origin number sessions all last (name ∷ names) (ids ∷ read) (t ∷ totals) added stored known = (
  record { read = ids; totals = added.0; rows = λ differ. rows_are last name added.0 stored.0 (known 0 (omega arith) differ) },
  logged_from origin (suc number) (map later_ends sessions) all last names read totals added.1 stored.1 (λ k less. known (suc k) (omega (arith, less))),
)

-- a book for each of the totals
pub books_long : (origin : ℕ → Origin) (number : ℕ) (sessions : List (List (Option Seat))) (books : List Followed) (totals : List Totals) → AreTotalsFrom origin number sessions (ids_read books) totals
    → length books ≡ length totals
books_long origin number sessions [] [] added = refl
books_long origin number sessions [] (t ∷ totals) added = absurd added
books_long origin number sessions (book ∷ books) [] added = absurd added
books_long origin number sessions (book ∷ books) (t ∷ totals) added = ap suc (books_long origin (suc number) (map later_ends sessions) books totals added.1)

-- what books have that agree with seats
pub known_read : (last : List Doc) (names : List (List ℕ)) (books : List Followed) (seats : List Copying) → length books ≡ length names
    → ((k : ℕ) → k < length books → k < length seats → (get_or books k no_book).ids ≡ (get_or seats k nothing_read).ids) → AreKnown last names seats
    → (k : ℕ) → k < length names → HoldsPrefix last (get_or names k []) (get_or (ids_read books) k [])
known_read last names books seats many agreed known k less =
    let inside : k < length books = omega (arith, less, many) in
    let there : k < length seats = omega (arith, less, known.many) in
    let same : (get_or seats k nothing_read).ids ≡ get_or (ids_read books) k [] =
    sym (agreed k inside there) ∙ sym (get_or-map (λ (book : Followed). book.ids) books k no_book [] inside) in
    subst (λ ids. HoldsPrefix last (get_or names k []) ids) same (known.each k less).prefix
