-- Ends that are taken out of what sessions gave back, the first of each session.
use Rattle.std.proofs.Common.{◌≡◌, ℕ, ◌+◌, ◌<◌, ◌≤◌, List, [], ◌∷◌, ◌++◌, length, map, drop, Option, refl, sym, ap, ◌∙◌, arith, append_assoc, append-nil, length-append}
use Rattle.std.specs.Prelude.{slice_index_or}
use Rattle.std.proofs.lemmas.List.{map-append, nil_from_length}
use Rattle.std.specs.List.{flat_map}
use Rattle.std.proofs.lemmas.Grind.{flat_map-append}
use Rattle.std.proofs.lemmas.List.Concat.{flat_map-cons}
use Rattle.doc_rules.specs.Seats.{Seat}
use Rattle.server_core.specs.Attended.{all_of}
use Rattle.server_core.specs.Sums.{first_end, later_ends}

-- what is taken out of the front of a list, and what is left
pub head_is : {X : Type 0} (xs : List X) (x : X) → 0 < length xs → x ≡ slice_index_or xs 0 x → xs ≡ x ∷ drop 1 xs
head_is [] x some is = absurd (omega arith)
head_is (y ∷ xs) x some is = ap (λ z. z ∷ xs) (sym is)

-- So many sessions were gone through: what is left of them stands behind those to come.
pub record IsThrough (sessions now : List (List (Option Seat))) (i : ℕ) (before column : List Seat) : Type 0 where
  pub done : List (List (Option Seat))
  pub rest : List (List (Option Seat))
  pub all : sessions ≡ done ++ rest
  pub so_many : length done ≡ i
  pub rotated : now ≡ rest ++ map later_ends done
  pub taken : column ≡ before ++ flat_map first_end done

pub begun : (sessions : List (List (Option Seat))) (before : List Seat) → IsThrough sessions sessions 0 before before
begun sessions before = record { done = []; rest = sessions; all = refl; so_many = refl; rotated = sym (append-nil sessions); taken = sym (append-nil before) }

-- the first of them goes to the end, without what was taken of it
pub one_through : {sessions now : List (List (Option Seat))} {i : ℕ} {before column : List Seat} → IsThrough sessions now i before column → i < length sessions
    → (first : List (Option Seat)) (rest new : List (List (Option Seat))) (grown : List Seat) → now ≡ first ∷ rest → new ≡ rest ++ later_ends first ∷ []
    → grown ≡ column ++ first_end first → IsThrough sessions new (i + 1) before grown
one_through {sessions} {now} {i} {before} {column} so_far within first rest new grown is moved more =
    by so_far.rest refl
  where
    by : (left : List (List (Option Seat))) → so_far.rest ≡ left → IsThrough sessions new (i + 1) before grown
    by [] none =
        let lengths : length sessions ≡ length so_far.done + 0 = ap length so_far.all ∙ length-append so_far.done so_far.rest ∙ ap (λ xs. length so_far.done + length xs) none in
        absurd (omega (arith, lengths, so_far.so_many, within))
    by (x ∷ left) are =
        let here : first ∷ rest ≡ x ∷ (left ++ map later_ends so_far.done) = sym is ∙ so_far.rotated ∙ ap (λ xs. xs ++ map later_ends so_far.done) are in
        let same : first ≡ x = cc in
        let others : rest ≡ left ++ map later_ends so_far.done = cc in
        record {
          done = so_far.done ++ x ∷ [];
          rest = left;
          all = so_far.all ∙ ap (λ xs. so_far.done ++ xs) are ∙ sym (append_assoc so_far.done (x ∷ []) left);
          so_many = length-append so_far.done (x ∷ []) ∙ ap (λ k. k + 1) so_far.so_many;
          rotated =
              moved ∙ ap (λ xs. xs ++ later_ends first ∷ []) others ∙ ap (λ y. (left ++ map later_ends so_far.done) ++ later_ends y ∷ []) same
              ∙ append_assoc left (map later_ends so_far.done) (later_ends x ∷ []) ∙ ap (λ xs. left ++ xs) (sym (map-append later_ends so_far.done (x ∷ [])));
          taken =
              more ∙ ap (λ xs. xs ++ first_end first) so_far.taken ∙ ap (λ y. (before ++ flat_map first_end so_far.done) ++ first_end y) same
              ∙ append_assoc before (flat_map first_end so_far.done) (first_end x)
              ∙ ap (λ xs. before ++ xs) (sym (flat_map-append first_end so_far.done (x ∷ []) ∙ ap (λ ys. flat_map first_end so_far.done ++ ys) (flat_map-cons first_end x [] ∙ append-nil (first_end x))));
        }

-- at the end all of them
pub all_through : {sessions now : List (List (Option Seat))} {i : ℕ} {before column : List Seat} → IsThrough sessions now i before column → length sessions ≤ i
    → (now ≡ map later_ends sessions) × (column ≡ before ++ flat_map first_end sessions)
all_through {sessions} {now} {i} {before} {column} so_far past =
    let lengths : length sessions ≡ length so_far.done + length so_far.rest = ap length so_far.all ∙ length-append so_far.done so_far.rest in
    let none : so_far.rest ≡ [] = nil_from_length so_far.rest (omega (arith, lengths, so_far.so_many, past)) in
    let same : sessions ≡ so_far.done = so_far.all ∙ ap (λ xs. so_far.done ++ xs) none ∙ append-nil so_far.done in (
      so_far.rotated ∙ ap (λ xs. xs ++ map later_ends so_far.done) none ∙ ap (map later_ends) (sym same),
      so_far.taken ∙ ap (λ xs. before ++ flat_map first_end xs) (sym same),
    )

-- ---- the sessions of each thread, one thread after another

-- So many threads were gone through: what is left of them, and what was taken.
pub record IsTaken (all rest kept : List (List (List (Option Seat)))) (column : List Seat) : Type 0 where
  pub done : List (List (List (Option Seat)))
  pub parts : all ≡ done ++ rest
  pub left : kept ≡ map (map later_ends) done
  pub taken : column ≡ flat_map (flat_map first_end) done

pub none_taken : (all kept : List (List (List (Option Seat)))) (column : List Seat) → kept ≡ [] → column ≡ [] → IsTaken all all kept column
none_taken all kept column no_rest nothing = record { done = []; parts = refl; left = no_rest; taken = nothing }

pub more_taken : {all rest kept : List (List (List (Option Seat)))} {column : List Seat} → IsTaken all rest kept column
    → (thread : List (List (Option Seat))) (later new : List (List (List (Option Seat)))) (grown : List Seat) → rest ≡ thread ∷ later
    → new ≡ kept ++ map later_ends thread ∷ [] → grown ≡ column ++ flat_map first_end thread → IsTaken all later new grown
more_taken {all} {rest} {kept} {column} so_far thread later new grown is moved more =
    record {
      done = so_far.done ++ thread ∷ [];
      parts = so_far.parts ∙ ap (λ xs. so_far.done ++ xs) is ∙ sym (append_assoc so_far.done (thread ∷ []) later);
      left = moved ∙ ap (λ xs. xs ++ map later_ends thread ∷ []) so_far.left ∙ sym (map-append (map later_ends) so_far.done (thread ∷ []));
      taken =
          more ∙ ap (λ xs. xs ++ flat_map first_end thread) so_far.taken
          ∙ sym (flat_map-append (flat_map first_end) so_far.done (thread ∷ [])
          ∙ ap (λ ys. flat_map (flat_map first_end) so_far.done ++ ys) (append-nil (flat_map first_end thread)));
    }

pub all_taken : {all rest kept : List (List (List (Option Seat)))} {column : List Seat} → IsTaken all rest kept column → rest ≡ []
    → (kept ≡ map (map later_ends) all) × (column ≡ flat_map (flat_map first_end) all)
all_taken {all} {rest} {kept} {column} so_far none =
    let same : all ≡ so_far.done = so_far.parts ∙ ap (λ xs. so_far.done ++ xs) none ∙ append-nil so_far.done in
    (so_far.left ∙ ap (map (map later_ends)) (sym same), so_far.taken ∙ ap (flat_map (flat_map first_end)) (sym same))

-- one behind the other, all sessions
pub left_of_all : (threads : List (List (List (Option Seat)))) → all_of (map (map later_ends) threads) ≡ map later_ends (all_of threads)
left_of_all [] = refl
left_of_all (thread ∷ threads) = ap (λ xs. map later_ends thread ++ xs) (left_of_all threads) ∙ sym (map-append later_ends thread (all_of threads))

pub firsts_of_all : (threads : List (List (List (Option Seat)))) → flat_map (flat_map first_end) threads ≡ flat_map first_end (all_of threads)
firsts_of_all [] = refl
firsts_of_all (thread ∷ threads) = ap (λ xs. flat_map first_end thread ++ xs) (firsts_of_all threads) ∙ sym (flat_map-append first_end thread (all_of threads))
