-- Entries that are written in a transaction.
use Rattle.std.proofs.Common.{◌≡◌, ◌<◌, ◌≤◌, ◌+◌, ◌-◌, ◌*◌, ◌/◌, ℕ, zero, suc, pos, List, [], ◌∷◌, ◌++◌, map, take, drop, set, flat_map, length, get_or, Result, Ok, Err, OnOk, IsErrAnd, inl, inr, refl, sym, ap, subst, ◌∙◌, append-nil, append_assoc, arith}
use Rattle.std.proofs.lemmas.Result.{on_ok_weaker}
use Rattle.std.proofs.lemmas.List.{length-map, length-set, take_more_set, length-drop, length-take-le, take-append-drop, take-map, drop-map, map-append}
use Rattle.std.proofs.lemmas.Grind.{flat_map-append}
use Rattle.sqlite_value.specs.declared.value.ValueRef.{ValueRef}
use Rattle.sqlite_value.specs.Value.{owned}
use Rattle.sqlite.specs.Values.{bound, bound_value}
use Rattle.sqlite.specs.declared.types.Value.TheVariants.{Int, Text}
use Rattle.sqlite.specs.Order.{Row}
use Rattle.sqlite.specs.Tree.{Trees}
use Rattle.sqlite_trees.specs.declared.store.Store.{Ghosts}
use Rattle.sqlite.specs.Held.{Held, state}
use Rattle.sqlite.specs.State.{State, HasCleanDisk, Survives}
use Rattle.sqlite.specs.declared.error.Error.{Error}
use Rattle.sqlite.proofs.StateLemmas.{survives_weaker}
use Rattle.stored_rows.specs.Content.{Content, Holds, with_rows, entry_row, rows_from}
use Rattle.stored_rows.specs.Steps.{IsOpenWith, Writing}
use Rattle.stored_rows.specs.Statements.{Statement, RanAll, CommitsOneOf, RunsThrough, commit_it, insert_row, insert_sixteen, inserts_by, inserts_of, batch_of}
use Rattle.stored_rows.proofs.TextRowLemmas.{rows_from-append, rows_from-take, rows_from-drop, length-rows_from}
use Rattle.stored_rows.proofs.RunLemmas.{one_more, and_rest, runs_then, runs_until}
use Rattle.stored_rows.proofs.StateLemmas.{begins, begin_commits, puts, put_commits, puts_sixteen, sixteen_commits, commits, commit_commits}

abbrev pub each_of : {X : Type 0} → (X → List ℕ) → List ℕ → ℕ → List X → List Statement
each_of f doc from xs = map insert_row (rows_from doc (from + 1) (map f xs))

-- the row of one text more
rows_more : {X : Type 0} (f : X → List ℕ) (doc : List ℕ) (from place : ℕ) (xs : List X) (i : ℕ) (x : X) → i < length xs → x ≡ get_or xs i x → place ≡ from + i
    → rows_from doc (from + 1) (map f (take (i + 1) xs)) ≡ rows_from doc (from + 1) (map f (take i xs)) ++ entry_row doc (place + 1) (f x) ∷ []
rows_more f doc from place xs i x below is at =
    let before = map f (take i xs) in
    let here : from + 1 + length before ≡ place + 1 = omega (arith, length-map (take i xs) f, length-take-le i xs (omega arith)) in
    ap (rows_from doc (from + 1)) (one_more f xs i x below ∙ ap (λ y. before ++ f y ∷ []) (sym is)) ∙ rows_from-append doc (from + 1) before (f x ∷ [])
    ∙ ap (λ p. rows_from doc (from + 1) before ++ entry_row doc p (f x) ∷ []) here

pub each_more : {X : Type 0} (f : X → List ℕ) (doc : List ℕ) (from place : ℕ) (xs : List X) (i : ℕ) (x : X) → i < length xs → x ≡ get_or xs i x → place ≡ from + i
    → each_of f doc from (take (i + 1) xs) ≡ each_of f doc from (take i xs) ++ insert_row (entry_row doc (place + 1) (f x)) ∷ []
each_more f doc from place xs i x below is at =
    ap (map insert_row) (rows_more f doc from place xs i x below is at) ∙ map-append insert_row (rows_from doc (from + 1) (map f (take i xs))) (entry_row doc (place + 1) (f x) ∷ [])

abbrev pub each_behind : {X : Type 0} → (X → List ℕ) → List ℕ → ℕ → List X → ℕ → List Statement
each_behind f doc from xs i = map insert_row (rows_from doc (from + 1 + length (map f (take i xs))) (map f (drop i xs)))

pub each_rest : {X : Type 0} (f : X → List ℕ) (doc : List ℕ) (from : ℕ) (xs : List X) (i : ℕ) → each_of f doc from xs ≡ each_of f doc from (take i xs) ++ each_behind f doc from xs i
each_rest f doc from xs i =
    let before = map f (take i xs) in
    let after = map f (drop i xs) in
    ap (λ z. map insert_row (rows_from doc (from + 1) z)) (and_rest f xs i) ∙ ap (map insert_row) (rows_from-append doc (from + 1) before after)
    ∙ map-append insert_row (rows_from doc (from + 1) before) (rows_from doc (from + 1 + length before) after)

-- ---- sixteen at once

abbrev pub puts_of : {X : Type 0} → (X → List ℕ) → List ℕ → ℕ → List X → List Statement
puts_of f doc from xs = inserts_of (rows_from doc (from + 1) (map f xs))

-- one statement more of sixteen rows
by_sixteen : (n : ℕ) (doc : List ℕ) (place : ℕ) (texts : List (List ℕ)) → inserts_by (suc n) (rows_from doc place texts) ≡ insert_sixteen (rows_from doc place (take 16 texts)) ∷ inserts_by n (rows_from doc (place + 16) (drop 16 texts))
by_sixteen n doc place texts =
    ap (λ (rows : List Row). insert_sixteen rows ∷ inserts_by n (drop 16 (rows_from doc place texts))) (rows_from-take doc 16 place texts)
    ∙ ap (λ (rows : List Row). insert_sixteen (rows_from doc place (take 16 texts)) ∷ inserts_by n rows) (rows_from-drop doc 16 place texts)

count_more : (n : ℕ) → 16 ≤ n → n / 16 ≡ suc ((n - 16) / 16)
count_more n enough = omega arith

pub first_and_rest : {X : Type 0} (f : X → List ℕ) (doc : List ℕ) (from : ℕ) (xs : List X) → 16 ≤ length xs
    → puts_of f doc from xs ≡ insert_sixteen (rows_from doc (from + 1) (map f (take 16 xs))) ∷ puts_of f doc (from + 16) (drop 16 xs)
first_and_rest f doc from xs enough =
    let texts = map f xs in
    let rows = rows_from doc (from + 1) texts in
    let many : length rows ≡ length xs = length-rows_from doc (from + 1) texts ∙ length-map xs f in
    let left : length rows - 16 ≡ length (rows_from doc (from + 16 + 1) (map f (drop 16 xs))) =
    omega (arith, many, length-rows_from doc (from + 16 + 1) (map f (drop 16 xs)), length-map (drop 16 xs) f, length-drop 16 xs) in
    let count : length rows / 16 ≡ suc (length (rows_from doc (from + 16 + 1) (map f (drop 16 xs))) / 16) = count_more (length rows) (omega (arith, many)) ∙ ap (λ z. suc (z / 16)) left in
    let at : from + 1 + 16 ≡ from + 16 + 1 = omega arith in
    ap (λ n. inserts_by n rows) count ∙ by_sixteen (length (rows_from doc (from + 16 + 1) (map f (drop 16 xs))) / 16) doc (from + 1) texts
    ∙ ap (λ z. insert_sixteen (rows_from doc (from + 1) z) ∷ inserts_by (length (rows_from doc (from + 16 + 1) (map f (drop 16 xs))) / 16) (rows_from doc (from + 1 + 16) (drop 16 texts))) (take-map f 16 xs)
    ∙ ap (λ z. insert_sixteen (rows_from doc (from + 1) (map f (take 16 xs))) ∷ inserts_by (length (rows_from doc (from + 16 + 1) (map f (drop 16 xs))) / 16) (rows_from doc (from + 1 + 16) z)) (drop-map f 16 xs)
    ∙ ap (λ p. insert_sixteen (rows_from doc (from + 1) (map f (take 16 xs))) ∷ inserts_by (length (rows_from doc (from + 16 + 1) (map f (drop 16 xs))) / 16) (rows_from doc p (map f (drop 16 xs)))) at

pub few_left : {X : Type 0} (f : X → List ℕ) (doc : List ℕ) (from : ℕ) (xs : List X) → length xs < 16 → puts_of f doc from xs ≡ each_of f doc from xs
few_left f doc from xs few =
    let rows = rows_from doc (from + 1) (map f xs) in
    let many : length rows ≡ length xs = length-rows_from doc (from + 1) (map f xs) ∙ length-map xs f in
    let none : length rows / 16 ≡ 0 = omega (arith, many) in
    ap (λ n. inserts_by n rows) none

-- the values of the rows of the texts
abbrev pub values_of : {X : Type 0} → (X → List ℕ) → List ℕ → ℕ → List X → Row
values_of f doc from xs = flat_map (λ row. row) (rows_from doc (from + 1) (map f xs))

three_more : {X : Type 0} (xs : List X) (n : ℕ) (a b c : X) → n + 2 < length xs → take (n + 3) (set (set (set xs n a) (n + 1) b) (n + 2) c) ≡ take n xs ++ a ∷ b ∷ c ∷ []
three_more xs n a b c room =
    let one = set xs n a in
    let two = set one (n + 1) b in
    let first : take (n + 1) one ≡ take n xs ++ a ∷ [] = take_more_set xs n a (omega arith) in
    let at_two : n + 1 + 1 ≡ n + 2 = omega arith in
    let at_three : n + 2 + 1 ≡ n + 3 = omega arith in
    let second = subst (λ z. take z two ≡ take (n + 1) one ++ b ∷ []) at_two (take_more_set one (n + 1) b (omega (arith, length-set xs n a))) in
    let third = subst (λ z. take z (set two (n + 2) c) ≡ take (n + 2) two ++ c ∷ []) at_three (take_more_set two (n + 2) c (omega (arith, length-set one (n + 1) b, length-set xs n a))) in
    third ∙ ap (λ z. z ++ c ∷ []) (second ∙ ap (λ z. z ++ b ∷ []) first ∙ append_assoc (take n xs) (a ∷ []) (b ∷ [])) ∙ append_assoc (take n xs) (a ∷ b ∷ []) (c ∷ [])

pub values_more : {X : Type 0} (f : X → List ℕ) (doc : List ℕ) (from place : ℕ) (xs : List X) (i : ℕ) (x : X) (values : List ValueRef) (at : ℕ) (a b c : ValueRef)
    → i < length xs → x ≡ get_or xs i x → place ≡ from + i → at + 2 < length values → owned a ≡ Text doc → owned b ≡ Int (pos (place + 1)) → owned c ≡ Text (f x)
    → bound (take at values) ≡ values_of f doc from (take i xs) → bound (take (at + 3) (set (set (set values at a) (at + 1) b) (at + 2) c)) ≡ values_of f doc from (take (i + 1) xs)
values_more f doc from place xs i x values at a b c below is counted room a_is b_is c_is filled =
    let row = entry_row doc (place + 1) (f x) in
    let rows = rows_from doc (from + 1) (map f (take i xs)) in
    let three : bound (a ∷ b ∷ c ∷ []) ≡ row = rw (a_is, b_is, c_is) refl in
    ap bound (three_more values at a b c room) ∙ map-append (λ v. bound_value (owned v)) (take at values) (a ∷ b ∷ c ∷ []) ∙ ap (λ z. z ++ bound (a ∷ b ∷ c ∷ [])) filled ∙ ap (λ z. values_of f doc from (take i xs) ++ z) three
    ∙ sym (flat_map-append (λ row. row) rows (row ∷ [])) ∙ ap (flat_map (λ row. row)) (sym (rows_more f doc from place xs i x below is counted))

module _ {S X : Type 0} (g : Ghosts S) (f : X → List ℕ) (doc : List ℕ) (from : ℕ) (xs : List X) where
  abbrev next_of : List Statement
  next_of = insert_sixteen (rows_from doc (from + 1) (map f (take 16 xs))) ∷ []

  pub next_sixteen : {T U : Type 0} (x : T) (old mid new : Held S) (r : Result U Error) → 16 ≤ length xs → RunsThrough g next_of old mid (Ok x) → RunsThrough g (puts_of f doc (from + 16) (drop 16 xs)) mid new r
      → RunsThrough g (puts_of f doc from xs) old new r
  next_sixteen x old mid new r enough one h =
      subst (λ its. RunsThrough g its old new r) (sym (first_and_rest f doc from xs enough)) (runs_then g next_of (puts_of f doc (from + 16) (drop 16 xs)) old mid new x r one h)

  pub no_further : {T U : Type 0} (e : Error) (old new : Held S) (r : Result U Error) → 16 ≤ length xs → IsErrAnd r (λ y. y ≡ e) → RunsThrough {T = T} g next_of old new (Err e) → RunsThrough g (puts_of f doc from xs) old new r
  no_further e old new r enough is one =
      subst (λ its. RunsThrough g its old new r) (sym (first_and_rest f doc from xs enough)) (runs_until g next_of (puts_of f doc (from + 16) (drop 16 xs)) old new e r is one)

  pub last_few : {U : Type 0} (old new : Held S) (r : Result U Error) → length xs < 16 → RunsThrough g (each_of f doc from xs) old new r → RunsThrough g (puts_of f doc from xs) old new r
  last_few old new r few h = subst (λ its. RunsThrough g its old new r) (sym (few_left f doc from xs few)) h

-- ---- what a batch does to a stored log

module _ {S : Type 0} (g : Ghosts S) (doc : List ℕ) where
  abbrev rest_of : ℕ → ℕ → List (List ℕ) → List Statement
  rest_of n place texts = inserts_by n (rows_from doc place texts) ++ commit_it ∷ []

  -- the rows behind those that a transaction shows
  with_more : (was : Content) (row : Row) (more : List Row) (s : State) → IsOpenWith (with_rows more (with_rows (row ∷ []) was)) s → IsOpenWith (with_rows (row ∷ more) was) s
  with_more was row more s = subst (λ z. IsOpenWith (record was { rows = z }) s) (append_assoc was.rows (row ∷ []) more)

  -- the rows of all texts, behind each other
  in_two : (was : Content) (place : ℕ) (texts : List (List ℕ)) → 16 ≤ length texts
      → (was.rows ++ rows_from doc place (take 16 texts)) ++ rows_from doc (place + 16) (drop 16 texts) ≡ was.rows ++ rows_from doc place texts
  in_two was place texts enough =
      let first = rows_from doc place (take 16 texts) in
      let long : length (take 16 texts) ≡ 16 = length-take-le 16 texts enough in
      let all : rows_from doc place texts ≡ first ++ rows_from doc (place + 16) (drop 16 texts) =
      ap (rows_from doc place) (sym (take-append-drop 16 texts)) ∙ rows_from-append doc place (take 16 texts) (drop 16 texts) ∙ ap (λ n. first ++ rows_from doc (place + n) (drop 16 texts)) long in
      append_assoc was.rows first (rows_from doc (place + 16) (drop 16 texts)) ∙ ap (λ z. was.rows ++ z) (sym all)

  each_ran : (was : Content) (place : ℕ) (texts : List (List ℕ)) (old new : Held S) → Writing was (state g old) → RanAll g (rest_of 0 place texts) old new → IsOpenWith (with_rows (rows_from doc place texts) was) (state g new)
  each_ran was place [] old new writing h =
      let is_open = commits (state g old) (state g h.0) (Ok h.1.0) h.1.1 was writing in
      subst (λ z. IsOpenWith (record was { rows = z }) (state g new)) (sym (append-nil was.rows)) (subst (λ c. IsOpenWith was (state g c)) h.2 is_open)
  each_ran was place (text ∷ texts) old new writing h =
      let row = entry_row doc place text in
      let shows = puts (state g old) (state g h.0) doc text place (Ok h.1.0) h.1.1 was writing in
      with_more was row (rows_from doc (place + 1) texts) (state g new) (each_ran (with_rows (row ∷ []) was) (place + 1) texts h.0 new shows h.2)

  each_commits : (was : Content) (place : ℕ) (texts : List (List ℕ)) (old : Held S) (db : Trees) → Writing was (state g old) → CommitsOneOf g (rest_of 0 place texts) old db → Holds (with_rows (rows_from doc place texts) was) db
  each_commits was place [] old db writing (inl h) = subst (λ z. Holds (record was { rows = z }) db) (sym (append-nil was.rows)) (commit_commits (state g old) was db writing h)
  each_commits was place [] old db writing (inr h) = absurd h.2
  each_commits was place (text ∷ texts) old db writing (inl h) = absurd (put_commits (state g old) was (entry_row doc place text) db writing h)
  each_commits was place (text ∷ texts) old db writing (inr h) =
      let row = entry_row doc place text in
      let shows = puts (state g old) (state g h.0) doc text place (Ok h.1.0) h.1.1 was writing in
      subst (λ z. Holds (record was { rows = z }) db) (append_assoc was.rows (row ∷ []) (rows_from doc (place + 1) texts)) (each_commits (with_rows (row ∷ []) was) (place + 1) texts h.0 db shows h.2)

  rest_is : (n place : ℕ) (texts : List (List ℕ)) → rest_of (suc n) place texts ≡ insert_sixteen (rows_from doc place (take 16 texts)) ∷ rest_of n (place + 16) (drop 16 texts)
  rest_is n place texts = ap (λ (its : List Statement). its ++ commit_it ∷ []) (by_sixteen n doc place texts)

  rest_ran : (n : ℕ) (was : Content) (place : ℕ) (texts : List (List ℕ)) (old new : Held S) → 16 * n ≤ length texts → Writing was (state g old) → RanAll g (rest_of n place texts) old new
      → IsOpenWith (with_rows (rows_from doc place texts) was) (state g new)
  rest_ran zero was place texts old new enough writing h = each_ran was place texts old new writing h
  rest_ran (suc n) was place texts old new enough writing h =
      let first = take 16 texts in
      let ran = subst (λ its. RanAll g its old new) (rest_is n place texts) h in
      let shows = puts_sixteen (state g old) (state g ran.0) doc first place (length-take-le 16 texts (omega arith)) (Ok ran.1.0) ran.1.1 was writing in
      subst (λ z. IsOpenWith (record was { rows = z }) (state g new)) (in_two was place texts (omega arith))
      (rest_ran n (with_rows (rows_from doc place first) was) (place + 16) (drop 16 texts) ran.0 new (omega (arith, length-drop 16 texts)) shows ran.2)

  rest_commits : (n : ℕ) (was : Content) (place : ℕ) (texts : List (List ℕ)) (old : Held S) (db : Trees) → 16 * n ≤ length texts → Writing was (state g old) → CommitsOneOf g (rest_of n place texts) old db
      → Holds (with_rows (rows_from doc place texts) was) db
  rest_commits zero was place texts old db enough writing h = each_commits was place texts old db writing h
  rest_commits (suc n) was place texts old db enough writing h =
      let first = take 16 texts in
      elim (subst (λ its. CommitsOneOf g its old db) (rest_is n place texts) h) [
        | inl now ↦ absurd (sixteen_commits (state g old) was _ db writing now)
        | inr later ↦
            let shows = puts_sixteen (state g old) (state g later.0) doc first place (length-take-le 16 texts (omega arith)) (Ok later.1.0) later.1.1 was writing in
            subst (λ z. Holds (record was { rows = z }) db) (in_two was place texts (omega arith))
            (rest_commits n (with_rows (rows_from doc place first) was) (place + 16) (drop 16 texts) later.0 db (omega (arith, length-drop 16 texts)) shows later.2)
      ]

  -- there are as many texts as statements of sixteen take
  enough_for : (place : ℕ) (texts : List (List ℕ)) → 16 * (length (rows_from doc place texts) / 16) ≤ length texts
  enough_for place texts = omega (arith, length-rows_from doc place texts)

  batch_ran : (was : Content) (place : ℕ) (texts : List (List ℕ)) (old new : Held S) → IsOpenWith was (state g old) → RanAll g (batch_of (rows_from doc place texts)) old new → IsOpenWith (with_rows (rows_from doc place texts) was) (state g new)
  batch_ran was place texts old new serves h = rest_ran (length (rows_from doc place texts) / 16) was place texts h.0 new (enough_for place texts) (begins (state g old) (state g h.0) (Ok h.1.0) h.1.1 was serves) h.2

  batch_commits : (was : Content) (place : ℕ) (texts : List (List ℕ)) (old : Held S) (db : Trees) → IsOpenWith was (state g old) → CommitsOneOf g (batch_of (rows_from doc place texts)) old db → Holds (with_rows (rows_from doc place texts) was) db
  batch_commits was place texts old db serves (inl h) = absurd (begin_commits (state g old) was db serves h)
  batch_commits was place texts old db serves (inr h) = rest_commits (length (rows_from doc place texts) / 16) was place texts h.0 db (enough_for place texts) (begins (state g old) (state g h.0) (Ok h.1.0) h.1.1 was serves) h.2

  module _ {T : Type 0} (place : ℕ) (texts : List (List ℕ)) (old new : Held S) (r : Result T Error) (h : RunsThrough g (batch_of (rows_from doc place texts)) old new r) where
    pub batch_shows : HasCleanDisk (state g new) → OnOk r ((was : Content) → IsOpenWith was (state g old) → IsOpenWith (with_rows (rows_from doc place texts) was) (state g new))
    batch_shows clean = on_ok_weaker r (λ all was serves. batch_ran was place texts old new serves all) (h.ran clean)

    pub batch_survives : Survives (state g old) (state g new) (λ db. (was : Content) → IsOpenWith was (state g old) → Holds (with_rows (rows_from doc place texts) was) db)
    batch_survives = survives_weaker (state g old) (state g new) _ _ (λ clean db by was serves. batch_commits was place texts old db serves by) h.crash
