-- What a session that opens a document has done, and what it does for a document of some name.
use Rattle.std.proofs.Common.{◌≡◌, ◌≢◌, ◌⊎◌, inl, inr, ℕ, List, [], ◌∷◌, ◌++◌, map, get_or, Option, Some, None, refl, sym, ap, ap₂, ◌∙◌, subst}
use Rattle.doc_api.specs.Words.{NoMemory, Cursor}
use Rattle.line_proto.specs.declared.request.DocRequest.{DocRequest}
use Rattle.line_proto.specs.declared.request.DocRequest.TheVariants as asked
use Rattle.line_proto.specs.declared.line_reply.LineReply.{LineReply}
use Rattle.line_proto.specs.declared.line_reply.LineReply.TheVariants as line_reply
use Rattle.session_rules.specs.Session.{Access, KnownSeat, Session, OpenDocument, new_seat, opened_at, Asks, AsksOf, Opens, Refuses}
use Rattle.session_core.specs.declared.open_document.OpenDocument as code
use Rattle.session_core.specs.Asked.{AsksOr, OnDocumentOr}
use Rattle.session_core.specs.OpenDocuments.{opened_of, session_of, IsOpenedAt}
use Rattle.session_core.proofs.Lists.{got_or, map-push}

module _ {A S R D : Type 0} (a : Access D) (known : S → KnownSeat) (os : List (code.OpenDocument A S R D)) (number : ℕ) where
  -- it is opened
  pub opens_again : (documents : D) (i : ℕ) (d : code.OpenDocument A S R D) (response : ℕ) → IsOpenedAt known os number i → d ≡ get_or os i d → response ≡ (known d.seat).number
      → Opens a (session_of known documents os) number (opened_at number (map (opened_of known) os)) (line_reply.Opened response) (session_of known documents os)
  opens_again documents i d response k is number_is =
      let here : d ≡ k.here = is ∙ got_or os i k.here d k.at in
      subst (λ (o : Option OpenDocument). Opens a (session_of known documents os) number o (line_reply.Opened response) (session_of known documents os))
      (sym k.found)
      (ap line_reply.Opened (number_is ∙ ap (λ (x : code.OpenDocument A S R D). (known x.seat).number) here), refl)

  -- it isn't
  pub opens_anew : (s t : Session D) (response : LineReply) → opened_at number (map (opened_of known) os) ≡ None
      → Opens a s number None response t ⊎ Refuses a s NoMemory response t
      → Opens a s number (opened_at number (map (opened_of known) os)) response t ⊎ Refuses a s NoMemory response t
  opens_anew s t response none opens =
      subst (λ (o : Option OpenDocument). Opens a s number o response t ⊎ Refuses a s NoMemory response t)
      (sym none) opens

-- a document more
pub opened_more : {A S R D : Type 0} (known : S → KnownSeat) (documents : D) (os mid new : List (code.OpenDocument A S R D)) (o : code.OpenDocument A S R D) (n : ℕ)
    → new ≡ mid ++ o ∷ [] → mid ≡ os → known o.seat ≡ new_seat n → o.variables ≡ []
    → session_of known documents new ≡ record { documents = documents; opened = map (opened_of known) os ++ record { number = o.number; seat = new_seat n; variables = [] } ∷ [] }
opened_more known documents os mid new o n e f seat variables =
    ap (λ (l : List OpenDocument). record { documents = documents; opened = l })
    (ap (map (opened_of known)) (e ∙ ap (λ l. l ++ o ∷ []) f) ∙ map-push (opened_of known) os o
    ∙ ap₂ (λ (s : KnownSeat) (v : List (List ℕ × Cursor)). map (opened_of known) os ++ record { number = o.number; seat = s; variables = v } ∷ []) seat variables)

-- ---- the document of a name

module _ {D : Type 0} (a : Access D) (s t : Session D) (response : LineReply) where
  asks_of : (number : ℕ) (ask : DocRequest) → ask ≢ asked.Open → Asks a s ask (opened_at number s.opened) response t → AsksOf a s number ask response t
  asks_of number asked.Open other asks = absurd (other refl)
  asks_of number ask other asks = asks

  pub asks_on : (found : Option ℕ) (number : ℕ) (ask : DocRequest) → found ≡ Some number → ask ≢ asked.Open → AsksOr a s ask (opened_at number s.opened) response t
      → OnDocumentOr a s found ask response t
  asks_on found number ask is other (inl asks) = subst (λ (n : Option ℕ). OnDocumentOr a s n ask response t) (sym is) (inl (asks_of number ask other asks))
  asks_on found number ask is other (inr lacks) = subst (λ (n : Option ℕ). OnDocumentOr a s n ask response t) (sym is) (inr lacks)

  opens_or : (number : ℕ) → Opens a s number (opened_at number s.opened) response t ⊎ Refuses a s NoMemory response t → OnDocumentOr a s (Some number) asked.Open response t
  opens_or number (inl opens) = inl opens
  opens_or number (inr (is, same)) = inr (is, inl same)

  pub opens_on : (found : Option ℕ) (number : ℕ) (ask : DocRequest) → found ≡ Some number → ask ≡ asked.Open
      → Opens a s number (opened_at number s.opened) response t ⊎ Refuses a s NoMemory response t → OnDocumentOr a s found ask response t
  opens_on found number ask is opens done =
      subst (λ (n : Option ℕ). OnDocumentOr a s n ask response t) (sym is)
      (subst (λ (q : DocRequest). OnDocumentOr a s (Some number) q response t) (sym opens) (opens_or number done))
