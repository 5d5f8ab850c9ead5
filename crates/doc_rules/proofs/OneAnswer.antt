-- What is read of a document is one answer: no reading has two.
use Rattle.std.proofs.Common.{◌≡◌, ℕ, ℤ, List, [], ◌∷◌, map, length, Option, Some, Result, Ok, Err, refl, sym, ap, subst, ◌∙◌, Ordering}
use Rattle.std.proofs.lemmas.Cmp.{nat_list_cmp_total}
use Rattle.std.proofs.lemmas.Map.Lookups.{exact_bytes}
use Rattle.std.proofs.lemmas.Bool.{both_ways}
use Rattle.std.specs.Prelude.{MatchResult}
use Rattle.serde_json.specs.Data.{Data, string}
use Rattle.serde_json.specs.Written.{compact_text}
use Rattle.doc_api.specs.Words.{Id, name_cmp, Refusal, Scalar, Val, Cursor, Key, Tagged}
use Rattle.op_core.specs.declared.cursor.Key.TheVariants.{Text, Element, Head}
use Rattle.list_laws.proofs.IdOrder.{IsIdOrder}
use Rattle.list_laws.proofs.Rising.{rising_same}
use Rattle.crdt_rules.specs.Facts.{Facts}
use Rattle.crdt_rules.proofs.WalkLaws.{id_order}
use Rattle.doc_rules.specs.Sorted.{AreAll, AreThose}
use Rattle.doc_rules.specs.Sorted.AreThose.{none, keep, skip}
use Rattle.op_core.specs.Shape.{is_head}
use Rattle.op_core.specs.Wire.{list_data}
use Rattle.json_scalar.specs.Refusal.{and_then}
use Rattle.doc_api.specs.declared.ask.Counts.{Counts}
use Rattle.doc_api.specs.declared.ask.Look.{Look}
use Rattle.doc_api.specs.declared.ask.Look.TheVariants as look
use Rattle.doc_api.specs.declared.ask.Query.{Query}
use Rattle.doc_api.specs.declared.ask.Query.TheVariants as query
use Rattle.doc_api.specs.declared.place.Place.{Place}
use Rattle.doc_api.specs.declared.place.Step.{Step}
use Rattle.doc_api.specs.declared.place.Step.TheVariants.{Get, Index}
use Rattle.doc_api.specs.declared.reply.Reply.{Reply}
use Rattle.doc_api.specs.declared.reply.Reply.TheVariants as reply
use Rattle.doc_rules.specs.Resolve.{may_go_on, at_index, Goes, Leads, checked_start, Resolves}
use Rattle.doc_rules.specs.Replica.{Replica, replica_facts}
use Rattle.doc_rules.specs.Index.{IsIndexAt}
use Rattle.doc_rules.specs.Answers.{reply_with, ReadsHere, LooksHere, IndexHere, ReadsAt, Reads}
use Rattle.doc_rules.specs.Role.{value_put_at}
use Rattle.doc_rules.specs.Views.{Values, IsPresent, into_map, into_list, AreKeys, AreEntries, AreValues, HaveValues, AreItems, AreTerms, total, IsSum, AreConflicts, ReadsPlace}
use Rattle.doc_rules.specs.Shown.{Shown, MapShown, ListShown, Fields, Elements, shown, no_map, a_map, no_list, a_list, no_fields, field, no_elements, element, names, HasList, total_shown, ShowsCount, Shows, ShowsMap, ShowsList, ShowsFields, ShowsElements, shown_data, ShowsText}
use Rattle.doc_rules.specs.Encoded.{item_data, conflict_data, EncodedAs, KeysText, ItemsText, ConflictsText}

-- ---- lists that hold exactly these

module _ {X K : Type 0} {cmp : K → K → Ordering} (key : X → K) (o : IsIdOrder cmp) where
  pub all_same : (holds : X → Type 0) (xs ys : List X) → AreAll cmp key holds xs → AreAll cmp key holds ys → xs ≡ ys
  all_same holds xs ys a b =
      rising_same o key xs ys a.rising b.rising (λ z c. b.all z (a.each z c)) (λ z c. a.all z (b.each z c))

pub those_same : {X : Type 0} {holds : X → Type 0} {xs ys zs : List X} → AreThose holds xs ys → AreThose holds xs zs → ys ≡ zs
those_same none none = refl
those_same (keep {x} h a) (keep h' b) = ap (λ l. x ∷ l) (those_same a b)
those_same (keep h a) (skip other b) = absurd (other h)
those_same (skip other a) (keep h b) = absurd (other h)
those_same (skip other a) (skip other' b) = those_same a b

pub name_order : IsIdOrder name_cmp
name_order = record { total = nat_list_cmp_total; exact = exact_bytes }

-- ---- readings of one place

module _ (f : Facts) (values : Values) where
  pub one_keys : (p : List Tagged) (k : Key) (xs ys : List (List ℕ)) → AreKeys f p k xs → AreKeys f p k ys → xs ≡ ys
  one_keys p k xs ys a b = all_same (λ text. text) name_order (λ text. IsPresent f (into_map p k) (Text text)) xs ys a b

  pub one_entries : (p : List Tagged) (k : Key) (xs ys : List (Id × Scalar)) → AreEntries f p k xs → AreEntries f p k ys → xs ≡ ys
  one_entries p k xs ys a b = all_same (λ entry. entry.0) id_order (λ entry. f.register p k entry.0 ≡ Some entry.1) xs ys a b

  pub one_values : (p : List Tagged) (k : Key) (xs ys : List Scalar) → AreValues f p k xs → AreValues f p k ys → xs ≡ ys
  one_values p k xs ys a b = a.2 ∙ ap (map (λ entry. entry.1)) (one_entries p k a.0 b.0 a.1 b.1) ∙ sym b.2

  pub one_conflicts : (p : List Tagged) (k : Key) (xs ys : List (Id × Val)) → AreConflicts f values p k xs → AreConflicts f values p k ys → xs ≡ ys
  one_conflicts p k xs ys a b = all_same (λ entry. entry.0) id_order _ xs ys a b

  have_same : (p : List Tagged) (ids : List Id) (xs ys : List (Id × List Scalar)) → HaveValues f p ids xs → HaveValues f p ids ys → xs ≡ ys
  have_same p [] [] [] a b = refl
  have_same p (i ∷ ids) (x ∷ xs) (y ∷ ys) a b =
      let e : x.1 ≡ y.1 = one_values p (Element i) x.1 y.1 a.1 b.1 in
      let rest : xs ≡ ys = have_same p ids xs ys a.2 b.2 in
      λ j. ((a.0 ∙ sym b.0) j, e j) ∷ rest j
  have_same p [] (x ∷ xs) ys a b = absurd a
  have_same p [] [] (y ∷ ys) a b = absurd b
  have_same p (i ∷ ids) [] ys a b = absurd a
  have_same p (i ∷ ids) (x ∷ xs) [] a b = absurd b

  pub one_items : (p : List Tagged) (k : Key) (xs ys : List (Id × List Scalar)) → AreItems f p k xs → AreItems f p k ys → xs ≡ ys
  one_items p k xs ys a b =
      have_same (into_list p k) b.0 xs ys (subst (λ ids. HaveValues f (into_list p k) ids xs) (those_same a.1 b.1) a.2) b.2

  pub one_terms : (p : List Tagged) (k : Key) (xs ys : List (Id × ℤ)) → AreTerms f p k xs → AreTerms f p k ys → xs ≡ ys
  one_terms p k xs ys a b = all_same (λ term. term.0) id_order (λ term. f.counter p k term.0 ≡ Some term.1) xs ys a b

  pub one_sum : (p : List Tagged) (k : Key) (x y : ℤ) → IsSum f p k x → IsSum f p k y → x ≡ y
  one_sum p k x y a b = a.2 ∙ ap total (one_terms p k a.0 b.0 a.1 b.1) ∙ sym b.2

  -- ---- the whole element

  one_count : (p : List Tagged) (k : Key) (x y : Option ℤ) → ShowsCount f p k x → ShowsCount f p k y → x ≡ y
  one_count p k x y a b = a.2 ∙ ap total_shown (one_terms p k a.0 b.0 a.1 b.1) ∙ sym b.2

  names_first : (n m : List ℕ) (e d : Shown) (xs ys : Fields) → names (field n e xs) ≡ names (field m d ys) → (n ≡ m) × (names xs ≡ names ys)
  names_first n m e d xs ys h = (cc, cc)

  ids_first : (i j : Id) (xs ys : List Id) → i ∷ xs ≡ j ∷ ys → (i ≡ j) × (xs ≡ ys)
  ids_first i j xs ys h = (cc, cc)

  mutual
    pub one_shown : (p : List Tagged) (k : Key) (x y : Shown) → Shows f values p k x → Shows f values p k y → x ≡ y
    one_shown p k (shown m l es n) (shown m' l' es' n') a b =
        λ i. shown (one_map p k m m' a.0 b.0 i) (one_list p k l l' a.1 b.1 i) (one_entries p k es es' a.2 b.2 i) (one_count p k n n' a.3 b.3 i)

    one_map : (p : List Tagged) (k : Key) (x y : MapShown) → ShowsMap f values p k x → ShowsMap f values p k y → x ≡ y
    one_map p k no_map no_map a b = refl
    one_map p k no_map (a_map ys) a b = absurd (a b.0)
    one_map p k (a_map xs) no_map a b = absurd (b a.0)
    one_map p k (a_map xs) (a_map ys) a b = ap a_map (one_fields (into_map p k) xs ys (one_keys p k (names xs) (names ys) a.1 b.1) a.2 b.2)

    one_list : (p : List Tagged) (k : Key) (x y : ListShown) → ShowsList f values p k x → ShowsList f values p k y → x ≡ y
    one_list p k no_list no_list a b = refl
    one_list p k no_list (a_list ys) a b = absurd (a.2 (subst (HasList f values p k) (those_same b.1 a.1) b.2))
    one_list p k (a_list xs) no_list a b = absurd (b.2 (subst (HasList f values p k) (those_same a.1 b.1) a.2))
    one_list p k (a_list xs) (a_list ys) a b =
        ap a_list (one_elements (into_list p k) b.0 xs ys (subst (λ ids. ShowsElements f values (into_list p k) ids xs) (those_same a.1 b.1) a.3) b.3)

    one_fields : (p : List Tagged) (x y : Fields) → names x ≡ names y → ShowsFields f values p x → ShowsFields f values p y → x ≡ y
    one_fields p no_fields no_fields e a b = refl
    one_fields p no_fields (field n d ys) e a b = absurd (let h = e in cc)
    one_fields p (field n d xs) no_fields e a b = absurd (let h = e in cc)
    one_fields p (field n d xs) (field m c ys) e a b =
        let first : n ≡ m = (names_first n m d c xs ys e).0 in
        let rest : xs ≡ ys = one_fields p xs ys (names_first n m d c xs ys e).1 a.1 b.1 in
        let same : d ≡ c = one_shown p (Text n) d c a.0 (subst (λ t. Shows f values p (Text t) c) (sym first) b.0) in
        λ i. field (first i) (same i) (rest i)

    one_elements : (p : List Tagged) (ids : List Id) (x y : Elements) → ShowsElements f values p ids x → ShowsElements f values p ids y → x ≡ y
    one_elements p ids no_elements no_elements a b = refl
    one_elements p ids no_elements (element d ys) a b = absurd (let h : [] ≡ b.0 ∷ b.1 = sym a ∙ b.2 in cc)
    one_elements p ids (element d xs) no_elements a b = absurd (let h : [] ≡ a.0 ∷ a.1 = sym b ∙ a.2 in cc)
    one_elements p ids (element d xs) (element c ys) a b =
        let both = ids_first a.0 b.0 a.1 b.1 (sym a.2 ∙ b.2) in
        let same : d ≡ c = one_shown p (Element a.0) d c a.3 (subst (λ t. Shows f values p (Element t) c) (sym both.0) b.3) in
        let rest : xs ≡ ys = one_elements p a.1 xs ys a.4 (subst (λ l. ShowsElements f values p l ys) (sym both.1) b.4) in
        λ i. element (same i) (rest i)

  pub one_text : (p : List Tagged) (k : Key) (x y : List ℕ) → ShowsText f values p k x → ShowsText f values p k y → x ≡ y
  one_text p k x y a b = a.2 ∙ ap (λ e. compact_text (shown_data e)) (one_shown p k a.0 b.0 a.1 b.1) ∙ sym b.2

  -- ---- readings that are answered as text

  one_encoding : {X : Type 0} (json : X → Data) (reads : List Tagged → Key → List X → Type 0)
      → ((p : List Tagged) (k : Key) (xs ys : List X) → reads p k xs → reads p k ys → xs ≡ ys)
      → (p : List Tagged) (k : Key) (x y : List ℕ) → EncodedAs json reads p k x → EncodedAs json reads p k y → x ≡ y
  one_encoding json reads one p k x y a b = a.2 ∙ ap (λ xs. compact_text (list_data (map json xs))) (one p k a.0 b.0 a.1 b.1) ∙ sym b.2

  pub one_keys_text : (p : List Tagged) (k : Key) (x y : List ℕ) → KeysText f p k x → KeysText f p k y → x ≡ y
  one_keys_text = one_encoding string (AreKeys f) one_keys

  pub one_items_text : (p : List Tagged) (k : Key) (x y : List ℕ) → ItemsText f p k x → ItemsText f p k y → x ≡ y
  one_items_text = one_encoding item_data (AreItems f) one_items

  pub one_conflicts_text : (p : List Tagged) (k : Key) (x y : List ℕ) → ConflictsText f values p k x → ConflictsText f values p k y → x ≡ y
  one_conflicts_text = one_encoding conflict_data (AreConflicts f values) one_conflicts

-- ---- where steps lead

module _ (f : Facts) where
  one_step : (c : Cursor) (step : Step) (x y : Result Cursor Refusal) → Goes f c step x → Goes f c step y → x ≡ y
  one_step c (Get text) x y a b = a ∙ sym b
  one_step c (Index n) x y a b = a.2 ∙ ap (λ ids. and_then (may_go_on c) (λ _. at_index c ids n)) (those_same a.1 b.1) ∙ sym b.2

  one_next : (from : Result Cursor Refusal) (step : Step) (x y : Result Cursor Refusal) → MatchResult from (λ c. Goes f c step x) (λ e. x ≡ Err e)
      → MatchResult from (λ c. Goes f c step y) (λ e. y ≡ Err e) → x ≡ y
  one_next (Ok c) step x y a b = one_step c step x y a b
  one_next (Err e) step x y a b = a ∙ sym b

  one_end : (steps : List Step) (from x y : Result Cursor Refusal) → Leads f steps from x → Leads f steps from y → x ≡ y
  one_end [] from x y a b = a ∙ sym b
  one_end (step ∷ steps) from x y a b =
      one_end steps b.0 x y (subst (λ next. Leads f steps next x) (one_next from step a.0 b.0 a.1 b.1) a.2) b.2

  pub one_place : (start : Cursor) (steps : List Step) (x y : Result Cursor Refusal) → Resolves f start steps x → Resolves f start steps y → x ≡ y
  one_place start steps x y a b = one_end steps (checked_start f start) x y a b

-- ---- answers of a replica that is only read

-- a reading at a cursor is one, where it is one at a place
pub one_reading : {X : Type 0} (reads : List Tagged → Key → X → Type 0) → ((p : List Tagged) (k : Key) (x y : X) → reads p k x → reads p k y → x ≡ y)
    → (c : Cursor) (x y : Result X Refusal) → ReadsPlace reads c x → ReadsPlace reads c y → x ≡ y
one_reading reads one c (Ok x) (Ok y) a b = ap Ok (one c.path c.key x y a.1 b.1)
one_reading reads one c (Ok x) (Err e) a b = absurd (both_ways (is_head c.key) a.0 b.0)
one_reading reads one c (Err d) (Ok y) a b = absurd (both_ways (is_head c.key) b.0 a.0)
one_reading reads one c (Err d) (Err e) a b = ap Err (a.1 ∙ sym b.1)

one_here : {X : Type 0} (reads : List Tagged → Key → X → Type 0) (reply_of : X → Reply)
    → ((p : List Tagged) (k : Key) (x y : X) → reads p k x → reads p k y → x ≡ y)
    → (c : Cursor) (x y : Reply) → ReadsHere reads reply_of c x → ReadsHere reads reply_of c y → x ≡ y
one_here reads reply_of one c x y a b = a.2 ∙ ap (reply_with reply_of) (one_reading reads one c a.0 b.0 a.1 b.1) ∙ sym b.2

pub one_look : (f : Facts) (values : Values) (l : Look) (c : Cursor) (x y : Reply) → LooksHere f values l c x → LooksHere f values l c y → x ≡ y
one_look f values look.Keys = one_here (KeysText f) reply.Keys (one_keys_text f values)
one_look f values look.Values = one_here (AreValues f) reply.Values (one_values f values)
one_look f values look.Items = one_here (ItemsText f) reply.Items (one_items_text f values)
one_look f values look.Conflicts = one_here (ConflictsText f values) reply.Conflicts (one_conflicts_text f values)
one_look f values look.Show = one_here (ShowsText f values) reply.Show (one_text f values)
one_look f values look.Sum = one_here (IsSum f) reply.Sum (one_sum f values)

-- how many present elements come up to one
one_index : (f : Facts) (p : List Tagged) (k : Key) (x y : Result ℕ Refusal) → IsIndexAt f p k x → IsIndexAt f p k y → x ≡ y
one_index f p (Element i) x y a b = a.2 ∙ ap (λ ids. Ok (length ids)) (those_same a.1 b.1) ∙ sym b.2
one_index f p Head x y a b = a ∙ sym b
one_index f p k x y a b = a ∙ sym b

one_index_here : (f : Facts) (c : Cursor) (x y : Reply) → IndexHere f c x → IndexHere f c y → x ≡ y
one_index_here f c x y a b = a.2 ∙ ap (reply_with reply.Index) (one_index f c.path c.key a.0 b.0 a.1 b.1) ∙ sym b.2

one_at : (r : Replica) (place : Place) (reads : Cursor → Reply → Type 0) → ((c : Cursor) (x y : Reply) → reads c x → reads c y → x ≡ y)
    → (x y : Reply) → ReadsAt r place reads x → ReadsAt r place reads y → x ≡ y
one_at r place reads one x y a b =
    by b.0 (subst (λ c. MatchResult c (λ c. reads c x) (λ e. x ≡ reply.Refused e)) (one_place (replica_facts r) place.start place.steps a.0 b.0 a.1 b.1) a.2) b.2
  where
    by : (c : Result Cursor Refusal) → MatchResult c (λ c. reads c x) (λ e. x ≡ reply.Refused e)
        → MatchResult c (λ c. reads c y) (λ e. y ≡ reply.Refused e) → x ≡ y
    by (Ok c) a b = one c x y a b
    by (Err e) a b = a ∙ sym b

pub one_answer : (r : Replica) (counts : Counts) (q : Query) (x y : Reply) → Reads r counts q x → Reads r counts q y → x ≡ y
one_answer r counts (query.Resolve place) x y = one_at r place (λ c a. a ≡ reply.Resolved c) (λ c x y a b. a ∙ sym b) x y
one_answer r counts (query.Index place) x y = one_at r place (IndexHere (replica_facts r)) (one_index_here (replica_facts r)) x y
one_answer r counts (query.Look l place) x y =
    one_at r place (LooksHere (replica_facts r) (value_put_at r.log) l) (one_look (replica_facts r) (value_put_at r.log) l) x y
one_answer r counts (query.Operations front limit) x y = λ a b. a ∙ sym b
one_answer r counts (query.Chains after front) x y = λ a b. a ∙ sym b
one_answer r counts (query.IsCopied i) x y = λ a b. a ∙ sym b
one_answer r counts (query.State s) x y = λ a b. a ∙ sym b
