-- What is done for a request, once it is known what the request is.
use Rattle.std.proofs.Common.{◌≡◌, ◌≢◌, Result, Ok, Err, sym, subst}
use Rattle.json_scalar.specs.Refusal.{and_then}
use Rattle.doc_api.specs.Words.{Refusal, NoMemory}
use Rattle.doc_api.specs.declared.place.Place.{Place}
use Rattle.line_proto.specs.declared.request.DocRequest.{DocRequest}
use Rattle.line_proto.specs.declared.line_reply.LineReply.{LineReply}
use Rattle.session_rules.specs.Session.{Deed, deed_of}
use Rattle.session_core.specs.declared.access.DocAccess as reached
use Rattle.session_core.specs.declared.open_document.OpenDocument as code
use Rattle.session_core.specs.OpenDocuments.{opened_of}
use Rattle.session_core.specs.Seats.{known_by}
use Rattle.session_core.specs.Serving.{IsServed}

module _ {A S R D : Type 0} (g : reached.Ghosts A S R D) (x y : A) (o p : code.OpenDocument A S R D) (response : LineReply) where
  -- the request is this one
  pub served_as : (ask made : DocRequest) → ask ≡ made → IsServed g x o (deed_of (opened_of (known_by g.seat_view) o) made) response y p
      → IsServed g x o (deed_of (opened_of (known_by g.seat_view) o) ask) response y p
  served_as ask made is served = subst (λ (a : DocRequest). IsServed g x o (deed_of (opened_of (known_by g.seat_view) o) a) response y p) (sym is) served

  -- its place was found
  pub served_at : (deed : Place → Deed) (due : Result Place Refusal) (place : Place) → (Ok place ≢ Err NoMemory → Ok place ≡ due)
      → IsServed g x o (Ok (deed place)) response y p → IsServed g x o (and_then due (λ place. Ok (deed place))) response y p
  served_at deed due place found served =
      subst (λ (r : Result Place Refusal). IsServed g x o (and_then r (λ place. Ok (deed place))) response y p) (found (λ e. cc)) served
