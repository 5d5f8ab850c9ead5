-- A server that has served and closed its stored log.
use Rattle.std.proofs.Common.{◌≡◌, ℕ, Bool, true, refl, sym, ap, ◌∙◌, List, [], ◌∷◌, ◌++◌, length, map, Option, Result, Ok, Err, IfOk, OnErr, subst, map-id}
use Rattle.std.specs.Prelude.{MatchResult}
use Rattle.std.proofs.lemmas.List.{length-map, map-append}
use Rattle.std.proofs.lemmas.List.Elements.{All-head, All-tail}
use Rattle.std.specs.List.{All, AllZip}
use Rattle.share_ledger.specs.Begun.{Origin}
use Rattle.doc_rules.specs.Seats.{Seat}
use Rattle.session_rules.specs.declared.Ending.{Ending}
use Rattle.server_core.specs.Attended.{AreAttended, AreServed, Bytes, Follow, IsLine, all_of}
use Rattle.std.specs.Bool.{⊤}
use Rattle.stored_log.specs.Log.{LogState}
use Rattle.stored_log.specs.declared.port.StoredLog.{Ghosts}
use Rattle.stored_log.specs.declared.stored_fault.StoredFault.{StoredFault}
use Rattle.stored_log.specs.Docs.{Doc}
use Rattle.served_log.specs.Stored.{ServesStored}
use Rattle.served_log.specs.Totals.{ServesSessions}
use Rattle.tcp_server.specs.Listening.{WritesAddress}
use Rattle.commands.specs.Server.{MayFollow, ServesAt, ServesFrom}

-- ---- connections by their bytes alone

module _ {C : Type 0} (bytes : C → Bytes) (follows : C → C → Type 0) (stays : Bool) (Is : C → Type 0) (step : (a b : C) → Is a → follows a b → (stays ≡ true) × Is b) where
  follow_bytes : (c : C) (later : List C) → Is c → Follow follows c later → Follow (MayFollow stays) (bytes c) (map bytes later)
  follow_bytes c [] is line = tt
  follow_bytes c (d ∷ later) is line = let next = step c d is line.0 in (next.0, follow_bytes d later next.1 line.1)

  line_bytes : (own : C) (served : List C) → Is own → IsLine follows own served → IsLine (MayFollow stays) (bytes own) (map bytes served)
  line_bytes own [] is line = tt
  line_bytes own (c ∷ later) is line = (ap bytes line.0, follow_bytes c later (subst Is (sym line.0) is) line.1)

  lines_bytes : (own : List C) (served : List (List C)) → All Is own → AllZip (IsLine follows) own served
      → AllZip (IsLine (MayFollow stays)) (map bytes own) (map (map bytes) served)
  lines_bytes [] [] are lines = tt
  lines_bytes [] (l ∷ served) are lines = absurd lines
  lines_bytes (c ∷ own) [] are lines = absurd lines
  lines_bytes (c ∷ own) (l ∷ served) are lines = (line_bytes c l (All-head Is c own are) lines.0, lines_bytes own served (All-tail Is c own are) lines.1)

  all_bytes : (served : List (List C)) → map (λ b. b) (all_of (map (map bytes) served)) ≡ map bytes (all_of served)
  all_bytes [] = refl
  all_bytes (l ∷ served) =
      map-append (λ b. b) (map bytes l) (all_of (map (map bytes) served)) ∙ ap (λ xs. xs ++ map (λ b. b) (all_of (map (map bytes) served))) (map-id (map bytes l))
      ∙ ap (λ xs. map bytes l ++ xs) (all_bytes served) ∙ sym (map-append bytes l (all_of served))

  served_bytes : {origin : ℕ → Origin} {names : List (List ℕ)} {own : List C} {endings : List (List (Option Ending))} {given : List (List (Option Seat))} → All Is own
      → AreServed origin names bytes follows own endings given → AreServed origin names (λ b. b) (MayFollow stays) (map bytes own) endings given
  served_bytes {origin} {names} {own} {endings} {given} are served =
      record {
        served = map (map bytes) served.served;
        lines = lines_bytes own served.served are served.lines;
        attended = subst (λ xs. AreAttended origin names xs (all_of endings) given) (sym (all_bytes served.served)) served.attended;
      }

  pub sessions_bytes : {origin : ℕ → Origin} {last : List Doc} {names : List (List ℕ)} {own : List C} {out_before out_after : Option (List ℕ)} → All Is own
      → ServesSessions bytes follows origin last names own out_before out_after
      → ServesSessions (λ b. b) (MayFollow stays) origin last names (map bytes own) out_before out_after
  sessions_bytes are it =
      record {
        endings = it.endings;
        given = it.given;
        totals = it.totals;
        served = served_bytes are it.served;
        each = it.each;
        added = it.added;
        stored = it.stored;
        written = it.written;
      }

length-mapped : {C B : Type 0} (f : C → B) (xs : List C) → length (map f xs) ≡ length xs
length-mapped f xs = length-map _ _

module _ {L Left : Type 0} (g : Ghosts L Left) where
  pub serves_from : {C : Type 0} (bytes : C → Bytes) (follows : C → C → Type 0) (stays : Bool) (Is : C → Type 0) (step : (a b : C) → Is a → follows a b → (stays ≡ true) × Is b)
      (name : List ℕ) (names : List (List ℕ)) (connections : List C) (count : ℕ) (old : L) (closed : Result ⊤ StoredFault) (last : Left) (out_before listens out_after : Option (List ℕ))
      → All Is connections → length connections ≡ count → WritesAddress out_before listens → OnErr closed ⊥ → ServesStored g bytes follows name names connections old closed last listens out_after
      → ServesFrom g old name names count stays out_before out_after
  serves_from bytes follows stays Is step name names connections count old (Ok done) last out_before listens out_after are many listening well s = record {
    listens = listens;
    listening = listening;
    connections = map bytes connections;
    so_many = length-mapped bytes connections ∙ many;
    last = last;
    served = record {
      begun = s.begun;
      replica = s.replica;
      raised = s.raised;
      same_tables = s.same_tables;
      served = record {
        folded = s.served.folded;
        new = s.served.new;
        same = s.served.same;
        was_alone = s.served.was_alone;
        sessions = sessions_bytes bytes follows stays Is step are s.served.sessions;
        copied = s.served.copied;
        alone = s.served.alone;
        works = s.served.works;
        is_in_file = s.served.is_in_file;
      };
    };
  }
  serves_from bytes follows stays Is step name names connections count old (Err why) last out_before listens out_after are many listening well s = absurd well

  -- a server over what was opened
  pub serves_opened : {F : Type 0} (finds : L → LogState → Type 0) (opened : Result L F) (name : List ℕ) (names : List (List ℕ)) (count : ℕ) (stays : Bool) (out_before out_after : Option (List ℕ))
      → IfOk opened (λ it. finds it (g.log it)) → MatchResult opened (λ it. ServesFrom g it name names count stays out_before out_after) (λ _. ⊥)
      → ServesAt g finds name names count stays out_before out_after
  serves_opened finds (Ok it) name names count stays out_before out_after found served = record { opened = it; found = found; served = served }
  serves_opened finds (Err why) name names count stays out_before out_after found served = absurd served
