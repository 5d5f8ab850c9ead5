-- What became of connections, one after another.
use Rattle.std.proofs.Common.{◌≡◌, ℕ, List, [], ◌∷◌, ◌++◌, map, Option, Some, None, Result, IfOk, IfSome, MatchOption, refl, sym, ap, ◌∙◌, subst, append_assoc, append-nil}
use Rattle.std.proofs.lemmas.List.{map-append}
use Rattle.std.proofs.lemmas.Grind.{flat_map-append}
use Rattle.std.specs.List.{AllZip}
use Rattle.share_ledger.specs.Begun.{Origin}
use Rattle.doc_rules.specs.Seats as seats
use Rattle.session_rules.specs.declared.Ending.{Ending}
use Rattle.std.specs.Option.{option_map}
use Rattle.std.proofs.lemmas.Result.{IfOk-weaker}
use Rattle.session_rules.specs.Session.{OpenDocument}
use Rattle.session_rules.specs.Shelf.{begins_at_shelf, shared}
use Rattle.session_core.specs.Ended.{Ends}
use Rattle.server_core.specs.Ends.{AreSeatEnds}
use Rattle.server_core.specs.Attended.{AreAttended, AreServed, Attends, Bytes, Follow, IsAttended, IsEndedSession, IsLine, all_of}

-- one more behind them
pub one_attended : (origin : ℕ → Origin) (names : List (List ℕ)) (all : List (Bytes)) (endings : List (Option Ending)) (sessions : List (List (Option seats.Seat)))
    (connection : Bytes) (why : Option Ending) (ends : List (Option seats.Seat)) → AreAttended origin names all endings sessions → IsAttended origin names connection why ends
    → AreAttended origin names (all ++ connection ∷ []) (endings ++ why ∷ []) (sessions ++ ends ∷ [])
one_attended origin names [] [] [] connection why ends are is = (is, tt)
one_attended origin names [] [] (x ∷ sessions) connection why ends are is = absurd are
one_attended origin names [] (w ∷ endings) sessions connection why ends are is = absurd are
one_attended origin names (h ∷ all) [] sessions connection why ends are is = absurd are
one_attended origin names (h ∷ all) (w ∷ endings) [] connection why ends are is = absurd are
one_attended origin names (h ∷ all) (w ∷ endings) (x ∷ sessions) connection why ends are is = (are.0, one_attended origin names all endings sessions connection why ends are.1 is)

-- and more behind them
pub attended_append : (origin : ℕ → Origin) (names : List (List ℕ)) (all : List Bytes) (endings : List (Option Ending)) (sessions : List (List (Option seats.Seat)))
    (later : List Bytes) (whys : List (Option Ending)) (given : List (List (Option seats.Seat))) → AreAttended origin names all endings sessions
    → AreAttended origin names later whys given → AreAttended origin names (all ++ later) (endings ++ whys) (sessions ++ given)
attended_append origin names [] [] [] later whys given are then = then
attended_append origin names [] [] (x ∷ sessions) later whys given are then = absurd are
attended_append origin names [] (w ∷ endings) sessions later whys given are then = absurd are
attended_append origin names (h ∷ all) [] sessions later whys given are then = absurd are
attended_append origin names (h ∷ all) (w ∷ endings) [] later whys given are then = absurd are
attended_append origin names (h ∷ all) (w ∷ endings) (x ∷ sessions) later whys given are then =
    (are.0, attended_append origin names all endings sessions later whys given are.1 then)

-- ---- one thread, one connection after another

follow_more : {C : Type 0} (follows : C → C → Type 0) (c : C) (later : List C) (last next : C) → Follow follows c (later ++ last ∷ []) → follows last next
    → Follow follows c ((later ++ last ∷ []) ++ next ∷ [])
follow_more follows c [] last next line after = (line.0, (after, tt))
follow_more follows c (d ∷ later) last next line after = (line.0, follow_more follows d later last next line.1 after)

line_more : {C : Type 0} (follows : C → C → Type 0) (own : C) (done : List C) (last next : C) → IsLine follows own (done ++ last ∷ []) → follows last next
    → IsLine follows own ((done ++ last ∷ []) ++ next ∷ [])
line_more follows own [] last next line after = (line.0, (after, tt))
line_more follows own (d ∷ done) last next line after = (line.0, follow_more follows d done last next line.1 after)

-- A thread is at a connection, behind those that it has served.
pub record IsAt {C : Type 0} (origin : ℕ → Origin) (names : List (List ℕ)) (bytes : C → Bytes) (follows : C → C → Type 0) (first current : C)
    (endings : List (Option Ending)) (given : List (List (Option seats.Seat))) : Type 0 where
  pub done : List C
  pub line : IsLine follows first done
  pub next : IsLine follows first (done ++ current ∷ [])
  pub attended : AreAttended origin names (map bytes done) endings given

pub at_first : {C : Type 0} (origin : ℕ → Origin) (names : List (List ℕ)) (bytes : C → Bytes) (follows : C → C → Type 0) (first : C)
    (endings : List (Option Ending)) (given : List (List (Option seats.Seat))) → endings ≡ [] → given ≡ [] → IsAt origin names bytes follows first first endings given
at_first origin names bytes follows first endings given no_endings no_ends =
    record {
      done = [];
      line = tt;
      next = (refl, tt);
      attended = subst (λ xs. AreAttended origin names [] xs given) (sym no_endings) (subst (AreAttended origin names [] []) (sym no_ends) tt);
    }

-- where it stops, it has served those before
pub stops : {C : Type 0} {origin : ℕ → Origin} {names : List (List ℕ)} {bytes : C → Bytes} {follows : C → C → Type 0} {first current : C}
    {endings : List (Option Ending)} {given : List (List (Option seats.Seat))} → IsAt origin names bytes follows first current endings given
    → (ended : List (Option Ending)) (left : List (List (Option seats.Seat))) → ended ≡ endings → left ≡ given → Attends origin names bytes follows first ended left
stops {C} {origin} {names} {bytes} {follows} {first} {current} {endings} {given} at ended left same_endings same_ends =
    record {
      served = at.done;
      line = at.line;
      attended =
          subst (λ xs. AreAttended origin names (map bytes at.done) xs left) (sym same_endings)
          (subst (AreAttended origin names (map bytes at.done) endings) (sym same_ends) at.attended);
    }

-- and behind this one, this one too
pub ends_there : {C : Type 0} {origin : ℕ → Origin} {names : List (List ℕ)} {bytes : C → Bytes} {follows : C → C → Type 0} {first current : C}
    {endings : List (Option Ending)} {given : List (List (Option seats.Seat))} → IsAt origin names bytes follows first current endings given
    → (why : Option Ending) (ends : List (Option seats.Seat)) → IsAttended origin names (bytes current) why ends
    → (ended : List (Option Ending)) (left : List (List (Option seats.Seat))) → ended ≡ endings ++ why ∷ [] → left ≡ given ++ ends ∷ []
    → Attends origin names bytes follows first ended left
ends_there {C} {origin} {names} {bytes} {follows} {first} {current} {endings} {given} at why ends is ended left more_endings more_ends =
    let one_more = one_attended origin names (map bytes at.done) endings given (bytes current) why ends at.attended is in
    let over = subst (λ xs. AreAttended origin names xs (endings ++ why ∷ []) (given ++ ends ∷ [])) (sym (map-append bytes at.done (current ∷ []))) one_more in
    record {
      served = at.done ++ current ∷ [];
      line = at.next;
      attended =
          subst (λ xs. AreAttended origin names (map bytes (at.done ++ current ∷ [])) xs left) (sym more_endings)
          (subst (AreAttended origin names (map bytes (at.done ++ current ∷ [])) (endings ++ why ∷ [])) (sym more_ends) over);
    }

-- the next one follows
pub goes_on : {C : Type 0} {origin : ℕ → Origin} {names : List (List ℕ)} {bytes : C → Bytes} {follows : C → C → Type 0} {first current : C}
    {endings : List (Option Ending)} {given : List (List (Option seats.Seat))} → IsAt origin names bytes follows first current endings given
    → (why : Option Ending) (ends : List (Option seats.Seat)) → IsAttended origin names (bytes current) why ends
    → (ended : List (Option Ending)) (left : List (List (Option seats.Seat))) → ended ≡ endings ++ why ∷ [] → left ≡ given ++ ends ∷ []
    → (after : C) → follows current after → IsAt origin names bytes follows first after ended left
unfolding ends_there
goes_on {C} {origin} {names} {bytes} {follows} {first} {current} at why ends is ended left more_endings more_ends after after_it =
    let attends = ends_there at why ends is ended left more_endings more_ends in
    record { done = at.done ++ current ∷ []; line = at.next; next = line_more follows first at.done current after at.next after_it; attended = attends.attended }

-- ---- all threads

-- what holds of the items of two lists, index by index, and of one more
pub zip_more : {A B : Type 0} (R : A → B → Type 0) (xs : List A) (ys : List B) (x : A) (y : B) → AllZip R xs ys → R x y → AllZip R (xs ++ x ∷ []) (ys ++ y ∷ [])
zip_more R [] [] x y are is = (is, tt)
zip_more R [] (b ∷ ys) x y are is = absurd are
zip_more R (a ∷ xs) [] x y are is = absurd are
zip_more R (a ∷ xs) (b ∷ ys) x y are is = (are.0, zip_more R xs ys x y are.1 is)

-- So many of a list were gone through, and of each something holds.
pub record IsBegun {A B : Type 0} (R : A → B → Type 0) (all rest : List A) (ys : List B) : Type 0 where
  pub done : List A
  pub parts : all ≡ done ++ rest
  pub each : AllZip R done ys

pub none_begun : {A B : Type 0} (R : A → B → Type 0) (all : List A) (ys : List B) → ys ≡ [] → IsBegun R all all ys
none_begun R all ys none = record { done = []; parts = refl; each = subst (AllZip R []) (sym none) tt }

pub more_begun : {A B : Type 0} (R : A → B → Type 0) (all rest left : List A) (ys new : List B) (x : A) (y : B) → IsBegun R all rest ys → rest ≡ x ∷ left → new ≡ ys ++ y ∷ []
    → R x y → IsBegun R all left new
more_begun R all rest left ys new x y so_far is more here =
    record {
      done = so_far.done ++ x ∷ [];
      parts = so_far.parts ∙ ap (λ xs. so_far.done ++ xs) is ∙ sym (append_assoc so_far.done (x ∷ []) left);
      each = subst (AllZip R (so_far.done ++ x ∷ [])) (sym more) (zip_more R so_far.done ys x y so_far.each here);
    }

pub all_begun : {A B : Type 0} (R : A → B → Type 0) (all rest given : List A) (ys : List B) → IsBegun R all rest ys → rest ≡ [] → all ≡ given → AllZip R given ys
all_begun R all rest given ys so_far none same =
    subst (λ xs. AllZip R xs ys) (sym (so_far.parts ∙ ap (λ xs. so_far.done ++ xs) none ∙ append-nil so_far.done) ∙ same) so_far.each

-- So many were joined, and the others are still promised.
pub record IsJoined {C B : Type 0} (bytes_of : C → Bytes) (follows : C → C → Type 0) (R : C → B → Type 0) (origin : ℕ → Origin) (names : List (List ℕ)) (all : List C)
    (rest : List B) (endings : List (List (Option Ending))) (given : List (List (Option seats.Seat))) : Type 0 where
  pub done : List C
  pub left : List C
  pub parts : all ≡ done ++ left
  pub promised : AllZip R left rest
  pub served : AreServed origin names bytes_of follows done endings given

pub none_joined : {C B : Type 0} (bytes_of : C → Bytes) (follows : C → C → Type 0) (R : C → B → Type 0) (origin : ℕ → Origin) (names : List (List ℕ)) (all : List C)
    (rest first : List B) (endings : List (List (Option Ending))) (given : List (List (Option seats.Seat))) → AllZip R all first → rest ≡ first → endings ≡ [] → given ≡ []
    → IsJoined bytes_of follows R origin names all rest endings given
none_joined bytes_of follows R origin names all rest first endings given promised same no_endings no_ends =
    record {
      done = [];
      left = all;
      parts = refl;
      promised = subst (AllZip R all) (sym same) promised;
      served =
          subst (λ xs. AreServed origin names bytes_of follows [] xs given) (sym no_endings)
          (subst (AreServed origin names bytes_of follows [] []) (sym no_ends) (record { served = []; lines = tt; attended = tt }));
    }

-- a thread of this connection keeps its promise, and without a thread nothing is served
pub is_kept : {T V C : Type 0} (running : Option T) (names_of : T → V) (connection_of : T → C) (items : V → List (List ℕ)) (bytes_of : C → Bytes) (follows : C → C → Type 0)
    (origin : ℕ → Origin) (names : V) (endings : List (Option Ending)) (given : List (List (Option seats.Seat)))
    → MatchOption running ((endings ≡ []) × (given ≡ [])) (λ t. Attends origin (items (names_of t)) bytes_of follows (connection_of t) endings given)
    → (c : C) → IfSome running (λ t. (names_of t ≡ names) × (connection_of t ≡ c)) → Attends origin (items names) bytes_of follows c endings given
is_kept None names_of connection_of items bytes_of follows origin names endings given kept c promised =
    record {
      served = [];
      line = tt;
      attended = subst (λ xs. AreAttended origin (items names) [] xs given) (sym kept.0) (subst (AreAttended origin (items names) [] []) (sym kept.1) tt);
    }
is_kept (Some t) names_of connection_of items bytes_of follows origin names endings given kept c promised =
    subst (λ v. Attends origin (items v) bytes_of follows c endings given) promised.0
    (subst (λ x. Attends origin (items (names_of t)) bytes_of follows x endings given) promised.1 kept)

pub mapped_push : {X Y : Type 0} (f : X → Y) (xs new : List X) (x : X) → new ≡ xs ++ x ∷ [] → map f new ≡ map f xs ++ f x ∷ []
mapped_push f xs new x more = ap (map f) more ∙ map-append f xs (x ∷ [])

-- one more behind these lists
pub all_of_push : {X : Type 0} (lists : List (List X)) (list : List X) → all_of (lists ++ list ∷ []) ≡ all_of lists ++ list
all_of_push lists list = flat_map-append (λ l. l) lists (list ∷ []) ∙ ap (λ xs. all_of lists ++ xs) (append-nil list)

-- one more thread
pub more_served : {C : Type 0} {origin : ℕ → Origin} {names : List (List ℕ)} {bytes : C → Bytes} {follows : C → C → Type 0} {done : List C}
    {endings : List (List (Option Ending))} {given : List (List (Option seats.Seat))} {c : C} {whys : List (Option Ending)} {ends : List (List (Option seats.Seat))}
    → AreServed origin names bytes follows done endings given → Attends origin names bytes follows c whys ends
    → AreServed origin names bytes follows (done ++ c ∷ []) (endings ++ whys ∷ []) (given ++ ends)
more_served {C} {origin} {names} {bytes} {follows} {done} {endings} {given} {c} {whys} {ends} so_far one_more =
    let connections : map bytes (all_of (so_far.served ++ one_more.served ∷ [])) ≡ map bytes (all_of so_far.served) ++ map bytes one_more.served =
    ap (map bytes) (all_of_push so_far.served one_more.served) ∙ map-append bytes (all_of so_far.served) one_more.served in
    let both = attended_append origin names (map bytes (all_of so_far.served)) (all_of endings) given (map bytes one_more.served) whys ends so_far.attended one_more.attended in
    record {
      served = so_far.served ++ one_more.served ∷ [];
      lines = zip_more (IsLine follows) done so_far.served c one_more.served so_far.lines one_more.line;
      attended =
          subst (λ xs. AreAttended origin names xs (all_of (endings ++ whys ∷ [])) (given ++ ends)) (sym connections)
          (subst (λ xs. AreAttended origin names (map bytes (all_of so_far.served) ++ map bytes one_more.served) xs (given ++ ends)) (sym (all_of_push endings whys)) both);
    }

pub more_joined : {C B : Type 0} (bytes_of : C → Bytes) (follows : C → C → Type 0) (R : C → B → Type 0) (origin : ℕ → Origin) (names : List (List ℕ)) (all : List C)
    (rest later : List B) (endings ended : List (List (Option Ending))) (given left : List (List (Option seats.Seat))) (y : B) (whys : List (Option Ending))
    (ends : List (List (Option seats.Seat))) → IsJoined bytes_of follows R origin names all rest endings given → rest ≡ y ∷ later → ended ≡ endings ++ whys ∷ []
    → left ≡ given ++ ends → ((c : C) → R c y → Attends origin names bytes_of follows c whys ends) → IsJoined bytes_of follows R origin names all later ended left
more_joined {C} {B} bytes_of follows R origin names all rest later endings ended given left y whys ends so_far is one_ended one_given kept =
    by so_far.left so_far.parts (subst (AllZip R so_far.left) is so_far.promised)
  where
    by : (others : List C) → all ≡ so_far.done ++ others → AllZip R others (y ∷ later) → IsJoined bytes_of follows R origin names all later ended left
    by [] parts promised = absurd promised
    by (c ∷ others) parts promised =
        record {
          done = so_far.done ++ c ∷ [];
          left = others;
          parts = parts ∙ sym (append_assoc so_far.done (c ∷ []) others);
          promised = promised.1;
          served =
              subst (λ xs. AreServed origin names bytes_of follows (so_far.done ++ c ∷ []) xs left) (sym one_ended)
              (subst (AreServed origin names bytes_of follows (so_far.done ++ c ∷ []) (endings ++ whys ∷ [])) (sym one_given) (more_served so_far.served (kept c promised.0)));
        }

pub all_joined : {C B : Type 0} (bytes_of : C → Bytes) (follows : C → C → Type 0) (R : C → B → Type 0) (origin : ℕ → Origin) (names : List (List ℕ)) (all : List C)
    (rest : List B) (endings : List (List (Option Ending))) (given : List (List (Option seats.Seat))) → IsJoined bytes_of follows R origin names all rest endings given → rest ≡ []
    → AreServed origin names bytes_of follows all endings given
all_joined {C} {B} bytes_of follows R origin names all rest endings given so_far none = by so_far.left so_far.parts (subst (AllZip R so_far.left) none so_far.promised)
  where
    by : (left : List C) → all ≡ so_far.done ++ left → AllZip R left [] → AreServed origin names bytes_of follows all endings given
    by [] parts promised = subst (λ xs. AreServed origin names bytes_of follows xs endings given) (sym (parts ∙ append-nil so_far.done)) so_far.served
    by (c ∷ left) parts promised = absurd promised

-- what an outbox has taken at first: what its device has
pub outbox_begins : (o p : Option (List ℕ)) (kept : List ℕ) → kept ≡ [] → o ≡ p → option_map (λ taken. taken ++ kept) o ≡ p
outbox_begins None p kept none same = same
outbox_begins (Some xs) p kept none same = ap (λ ys. Some (xs ++ ys)) none ∙ ap Some (append-nil xs) ∙ same

-- a session over a sink that begins with what the device of its connection has
pub ended_over : {X E : Type 0} (origin : ℕ → Origin) (names : List (List ℕ)) (source has held holds sink : Option (List ℕ)) (why_of : X → Ending) (ends_of : X → List (Option seats.Seat)) (r : Result X E)
    → held ≡ sink
    → IfOk r (λ x. (opened : List OpenDocument) × Ends (shared origin names) begins_at_shelf source has held holds (why_of x) (record { documents = tt; opened = opened })
    × AreSeatEnds names opened (ends_of x))
    → IfOk r (λ x. IsEndedSession origin names (record { source = source; sink = sink }) (why_of x) (ends_of x))
ended_over origin names source has held holds sink why_of ends_of r same is =
    IfOk-weaker r _ _ (λ x ended. record {
      has = has;
      holds = holds;
      opened = ended.0;
      session = subst (λ b. Ends (shared origin names) begins_at_shelf source has b holds (why_of x) (record { documents = tt; opened = ended.0 })) same ended.1;
      given_back = ended.2;
    }) is
