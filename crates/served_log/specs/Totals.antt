-- What a server writes at the end.
use Rattle.std.specs.Prelude.{◌≡◌, ℕ, suc, List, [], ◌∷◌, ◌++◌, length, map, codes, Option}
use Rattle.std.specs.Fmt.{decimal}
use Rattle.std.specs.Io.KnownBytes.{Appends}
use Rattle.std.specs.List.{AllZip, flat_map}
use Rattle.share_ledger.specs.Begun.{Origin}
use Rattle.doc_api.specs.Words.{Id}
use Rattle.doc_rules.specs.Seats.{Seat, operation_ids}
use Rattle.locked_doc.specs.declared.gather.Totals.{Totals}
use Rattle.session_rules.specs.declared.Ending.{Ending}
use Rattle.server_core.specs.Attended.{AreServed, Bytes}
use Rattle.server_core.specs.Sums.{AreTotals, first_end, later_ends}
use Rattle.stored_log.specs.Docs.{Doc, log_of}
use Rattle.served_log.specs.Known.{AllDiffer}

-- ["total",DOC,ACCEPTED,LOGGED,COPIED]
abbrev pub total_line : List ℕ → Totals → List ℕ
total_line name t =
    codes "[\"total\",\"" ++ (name ++ (codes "\","
    ++ (decimal t.accepted ++ (codes "," ++ (decimal t.logged ++ (codes "," ++ (decimal t.copied ++ codes "]\n")))))))

-- a line for each document, in their order
abbrev pub total_lines : List (List ℕ) → List Totals → List ℕ
total_lines (name ∷ names) (t ∷ ts) = total_line name t ++ total_lines names ts
total_lines [] ts = []
total_lines (name ∷ names) [] = []

-- the stored log has as many operations of the document as are logged, and as many count as copied
abbrev pub IsStored : List Doc → List ℕ → Totals → Type 0
IsStored docs name t = (t.logged ≡ length (log_of name docs))
    × (t.copied ≡ length (log_of name docs))

-- each document, in their order
abbrev pub AreStored : List Doc → List (List ℕ) → List Totals → Type 0
AreStored docs names totals = AllZip (IsStored docs) names totals

-- The totals of the document of this number, from what sessions gave back there. Where no two of
-- all documents have one name, the stored log has of it, under this name, just the operations that
-- are logged: the same ids in the same order.
pub record IsLogged (origin : ℕ → Origin) (number : ℕ) (given : List Seat) (all : List (List ℕ))
    (last : List Doc) (name : List ℕ) (t : Totals) : Type 0 where
  pub read : List Id
  pub totals : AreTotals origin number given read t
  pub rows : AllDiffer all
      → operation_ids (log_of name last) ≡ operation_ids totals.document.replica.log

-- of the documents of these names from this number on, one after another
abbrev pub AreLoggedFrom : (ℕ → Origin) → ℕ → List (List (Option Seat)) → List (List ℕ) → List Doc
    → List (List ℕ) → List Totals → Type 0
AreLoggedFrom origin number sessions all last [] [] = Unit {0}
AreLoggedFrom origin number sessions all last (name ∷ names) (t ∷ totals) =
    IsLogged origin number (flat_map first_end sessions) all last name t
    × AreLoggedFrom origin (suc number) (map later_ends sessions) all last names totals
AreLoggedFrom origin number sessions all last [] (t ∷ totals) = ⊥
AreLoggedFrom origin number sessions all last (name ∷ names) [] = ⊥

-- Threads of these connections, each with the sessions that it served over documents of these names;
-- and then a line of totals for each document, which are those of the seats that these sessions
-- had. Each document began with just the entries of its origin, as the replica of that name, and
-- whatever a session was answered of a name is of a document that began so. At the end the log
-- has these last documents: of each it has the operations that are logged there, and as many as the
-- totals say. Where they are known, the bytes are what a connection's source has and what its sink
-- has taken.
pub record ServesSessions {C : Type 0} (bytes : C → Bytes) (follows : C → C → Type 0) (origin : ℕ → Origin) (last : List Doc)
    (names : List (List ℕ)) (connections : List C) (out_before out_after : Option (List ℕ)) : Type 0 where
  pub endings : List (List (Option Ending))
  pub given : List (List (Option Seat))
  pub totals : List Totals
  pub served : AreServed origin names bytes follows connections endings given
  pub each : length totals ≡ length names
  pub added : AreLoggedFrom origin 0 given names last names totals
  pub stored : AreStored last names totals
  pub written : Appends out_before out_after (total_lines names totals)
