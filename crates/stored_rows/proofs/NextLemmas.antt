-- The rows of good documents, in order, are next one after another.
use Rattle.std.proofs.Common.{◌≡◌, ◌≢◌, ◌+◌, ◌<◌, ◌^◌, ℕ, zero, suc, drop, get_or, Result, Ok, Err, IfErr, List, [], ◌∷◌, ◌++◌, length, map, true, false, Contains, refl, sym, ap, subst, ◌∙◌, append-nil, append_assoc, arith, length-append, Ordering, Less, Equal, Greater}
use Rattle.std.specs.Prelude.{⊤}
use Rattle.std.specs.List.{AllByRecursion, list_any}
use Rattle.std.specs.Ordering.{is_lt}
use Rattle.std.specs.Str.{bytes_eq}
use Rattle.op_log.proofs.Fronts.{names_differ}
use Rattle.sqlite.specs.Order.{Row}
use Rattle.sqlite_keyed.proofs.ListLemmas.{all-append}
use Rattle.lamport_id.specs.Name.{is_name}
use Rattle.doc_api.specs.Words.{name_cmp, Op}
use Rattle.op_core.specs.Shape.{is_shaped}
use Rattle.list_laws.proofs.IdOrder.{irreflexive, asymmetric}
use Rattle.list_laws.proofs.Members.{Contains-here, Contains-there}
use Rattle.crdt_rules.specs.Log.{IsGood}
use Rattle.crdt_rules.proofs.Logs.{good_split}
use Rattle.doc_rules.proofs.OneAnswer.{name_order}
use Rattle.stored_rows.specs.Content.{entry_row, rows_from}
use Rattle.stored_log.specs.Docs.{Doc, AreInOrder, AreGood, is_named, op_text, log_of, longer_by, extend, put_doc, add_log, UnlessNoMemory}
use Rattle.stored_log.specs.declared.fault.Fault.{Fault}
use Rattle.stored_log.specs.declared.fault.Fault.TheVariants.{Refused, Store, Memory}
use Rattle.stored_rows.proofs.RowLemmas.{few_rows}
use Rattle.stored_rows.specs.Rows.{rows_of}
use Rattle.stored_rows.specs.Accepted.{IsWritable, AreWritable, IsNext}

-- the rows are next one after another
abbrev pub AreNext : ℕ → List Doc → List Row → Type 0
AreNext format old [] = ⊤
AreNext format old (row ∷ rows) = (name : List ℕ) × (op : Op) × IsNext format old row name op
    × AreNext format (add_log name (op ∷ []) old) rows

abbrev IsBefore : List ℕ → Doc → Type 0
IsBefore name d = name_cmp d.name name ≡ Less

abbrev AreBefore : List ℕ → List Doc → Type 0
AreBefore name docs = AllByRecursion (IsBefore name) docs

-- a document at the end with these entries, where there are some
abbrev ending : List Doc → List ℕ → List Op → List Doc
ending done name [] = done
ending done name (op ∷ ops) = done ++ (record { name = name; log = op ∷ ops }) ∷ []

not_named : (name : List ℕ) (d : Doc) → IsBefore name d → is_named name d ≡ false
not_named name d less = names_differ d.name name (λ same. irreflexive name_order {x = name} (subst (λ n. name_cmp n name ≡ Less) same less))

not_less : (o : Ordering) → (o ≡ Less → ⊥) → is_lt o ≡ false
not_less Less h = absurd (h refl)
not_less Equal h = refl
not_less Greater h = refl

not_after : (name : List ℕ) (d : Doc) → IsBefore name d → is_lt (name_cmp name d.name) ≡ false
not_after name d less = not_less _ (asymmetric name_order {x = d.name} {y = name} less)

module _ (name : List ℕ) where
  log_ending : (done more : List Doc) → AreBefore name done → log_of name (done ++ more) ≡ log_of name more
  log_ending [] more h = refl
  log_ending (d ∷ done) more h = rw (not_named name d h.0) (log_ending done more h.1)

  any_ending : (done more : List Doc) → AreBefore name done → list_any (λ d. is_named name d) (done ++ more) ≡ list_any (λ d. is_named name d) more
  any_ending [] more h = refl
  any_ending (d ∷ done) more h = rw (not_named name d h.0) (any_ending done more h.1)

  put_ending : (ops : List Op) (done : List Doc) → AreBefore name done → put_doc (record { name = name; log = ops }) done ≡ done ++ (record { name = name; log = ops }) ∷ []
  put_ending ops [] h = refl
  put_ending ops (d ∷ done) h = rw (not_after name d h.0) (ap (λ z. d ∷ z) (put_ending ops done h.1))

  extend_ending : (ops : List Op) (done more : List Doc) → AreBefore name done → extend name ops (done ++ more) ≡ done ++ extend name ops more
  extend_ending ops [] more h = refl
  extend_ending ops (d ∷ done) more h = rw (not_named name d h.0) (ap (λ z. d ∷ z) (extend_ending ops done more h.1))

  named_itself : bytes_eq name name ≡ true
  named_itself = (Rattle.std.proofs.lemmas.Slice.Eq.bytes_eq-Decides name name).1 refl

  log_so_far : (done : List Doc) (part : List Op) → AreBefore name done → log_of name (ending done name part) ≡ part
  log_so_far done [] h = ap (log_of name) (sym (append-nil done)) ∙ log_ending done [] h
  log_so_far done (op ∷ ops) h = log_ending done _ h ∙ rw named_itself refl

  one_more : (done : List Doc) (part : List Op) (op : Op) → AreBefore name done → add_log name (op ∷ []) (ending done name part) ≡ ending done name (part ++ op ∷ [])
  one_more done [] op h =
      let none : list_any (λ d. is_named name d) done ≡ false = ap (list_any (λ d. is_named name d)) (sym (append-nil done)) ∙ any_ending done [] h in
      rw none (put_ending (op ∷ []) done h)
  one_more done (first ∷ ops) op h =
      let last : Doc = record { name = name; log = first ∷ ops } in
      let some : list_any (λ d. is_named name d) (done ++ last ∷ []) ≡ true = any_ending done (last ∷ []) h ∙ rw named_itself refl in
      let ends : extend name (op ∷ []) (last ∷ []) ≡ longer_by (op ∷ []) last ∷ [] = rw named_itself refl in
      rw some (extend_ending (op ∷ []) done (last ∷ []) h ∙ ap (λ z. done ++ z) ends)

  module _ (format : ℕ) (done : List Doc) (before : AreBefore name done) (named : is_name name ≡ true) (later : List Row) where
    next_rows : (part rest : List Op) → IsGood (part ++ rest) → AllByRecursion (IsWritable format) rest → AreNext format (ending done name (part ++ rest)) later
        → AreNext format (ending done name part) (rows_from name (length part + 1) (map op_text rest) ++ later)
    next_rows part [] good writable after = subst (λ p. AreNext format (ending done name p) later) (append-nil part) after
    next_rows part (op ∷ rest) good writable after =
        let whole : (part ++ op ∷ []) ++ rest ≡ part ++ op ∷ rest = append_assoc part (op ∷ []) rest in
        let so_far = log_so_far done part before in
        let place : length (part ++ op ∷ []) + 1 ≡ length part + 1 + 1 = omega (arith, length-append part (op ∷ [])) in
        let more = next_rows (part ++ op ∷ []) rest (subst IsGood (sym whole) good) writable.1 (subst (λ p. AreNext format (ending done name p) later) (sym whole) after) in
        let moved = subst (λ p. AreNext format (ending done name (part ++ op ∷ [])) (rows_from name p (map op_text rest) ++ later)) place more in (
          name,
          op,
          record {
            is_row = rw so_far refl;
            named = named;
            good = rw so_far ((good_split [] (part ++ op ∷ []) rest (subst IsGood (sym whole) good)).0);
            writable = writable.0;
          },
          subst (λ old. AreNext format old (rows_from name (length part + 1 + 1) (map op_text rest) ++ later)) (sym (one_more done part op before)) moved,
        )

ends_with : (done : List Doc) (d : Doc) → d.log ≢ [] → ending done d.name d.log ≡ done ++ d ∷ []
ends_with done d some = go d.log refl some
  where
    go : (log : List Op) → d.log ≡ log → log ≢ [] → ending done d.name log ≡ done ++ d ∷ []
    go [] is some = absurd (some refl)
    go (op ∷ ops) is some = ap (λ l. done ++ (record { name = d.name; log = l }) ∷ []) (sym is)

docs_next : (format : ℕ) (done docs : List Doc) → ((y : Doc) → Contains docs y → AreBefore y.name done) → AreInOrder docs → AreGood docs → AreWritable format docs → AreNext format done (rows_of docs)
docs_next format done [] before in_order good writable = tt
docs_next format done (d ∷ docs) before in_order good writable =
    let rest = docs_next format (done ++ d ∷ []) docs (λ y c. all-append (IsBefore y.name) done (d ∷ []) (before y (Contains-there d docs c)) (in_order.0 y c, tt)) in_order.1 good.1 writable.1 in
    next_rows d.name format done (before d (Contains-here docs refl)) good.0.named (rows_of docs) [] d.log good.0.good writable.0
    (subst (λ old. AreNext format old (rows_of docs)) (sym (ends_with done d good.0.some)) rest)

pub all_next : (format : ℕ) (docs : List Doc) → AreInOrder docs → AreGood docs → AreWritable format docs → AreNext format [] (rows_of docs)
all_next format docs = docs_next format [] docs (λ y c. tt)

-- ---- one row after another

drop_here : (rows : List Row) (i : ℕ) (d : Row) → i < length rows → drop i rows ≡ get_or rows i d ∷ drop (i + 1) rows
drop_here [] i d below = absurd (omega arith)
drop_here (row ∷ rows) zero d below = refl
drop_here (row ∷ rows) (suc i) d below = let e : suc i + 1 ≡ suc (i + 1) = omega arith in rw e (drop_here rows i d (omega arith))

pub next_at : (format : ℕ) (old : List Doc) (rows : List Row) (i : ℕ) (row : Row) → i < length rows → row ≡ get_or rows i row → AreNext format old (drop i rows)
    → (name : List ℕ) × (op : Op) × IsNext format old row name op × AreNext format (add_log name (op ∷ []) old) (drop (i + 1) rows)
next_at format old rows i row below is next = subst (AreNext format old) (drop_here rows i row below ∙ ap (λ r. r ∷ drop (i + 1) rows) (sym is)) next

pub same_entry : (a b t u : List ℕ) (p q : ℕ) → entry_row a p t ≡ entry_row b q u → (a ≡ b) × (p ≡ q) × (t ≡ u)
same_entry a b t u p q e = (cc, cc, cc)

pub next_shaped : (format : ℕ) (old : List Doc) (row : Row) (name : List ℕ) (op : Op) → IsNext format old row name op → is_shaped op ≡ true
next_shaped format old row name op h = (good_split [] (log_of name old) (op ∷ []) h.good).1.0.shape

pub next_place : (format : ℕ) (old : List Doc) (row : Row) (name : List ℕ) (op : Op) → IsNext format old row name op → length (log_of name old) + 1 < 2 ^ 32
next_place format old row name op h = omega (arith, few_rows (log_of name old ++ op ∷ []) h.good, length-append (log_of name old) (op ∷ []))

-- ---- what is left of a refusal

pub wanting : (fault : Fault) (op : Op) → UnlessNoMemory {A = Op} (Err fault) (Ok op) → fault ≡ Memory
wanting Refused op h = absurd (let e = h (λ e. cc) in cc)
wanting Store op h = absurd (let e = h (λ e. cc) in cc)
wanting Memory op h = refl

pub read_as : (op found : Op) → UnlessNoMemory {A = Op} (Ok found) (Ok op) → found ≡ op
read_as op found h = let e = h (λ e. cc) in cc

pub only_memory : (P : Type 0) (r : Result (Unit {0}) Fault) → IfErr r (λ e. P × (e ≢ Store)) → (r ≡ Err Refused → ⊥) → IfErr r (λ e. e ≡ Memory)
only_memory P (Ok x) h fits = tt
only_memory P (Err Refused) h fits = absurd (fits refl)
only_memory P (Err Store) h fits = absurd (h.1 refl)
only_memory P (Err Memory) h fits = refl

pub refused_or_memory : (fault : Fault) → fault ≡ Memory → fault ≡ Refused → ⊥
refused_or_memory fault memory refused =
    let clash : Memory ≡ Refused = sym memory ∙ refused in
    absurd cc
