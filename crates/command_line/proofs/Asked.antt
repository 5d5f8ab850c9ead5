-- What is looked up in clap's matches.
use Rattle.std.proofs.Common.{◌≡◌, List, [], map, codes, Option, Some, None, unwrap_or, option_map, refl, ap, ap₂, ◌∙◌}
use Rattle.std.specs.Borrow.{Bor}
use Rattle.clap.specs.Words.{Text, all_of, first_of, first_value, found_of, matched_of, raw_values, rows_of}
use Rattle.clap.proofs.WalkLemmas.{first_value-rows, raw_values-rows}
use Rattle.clap.specs.declared.parser.matches.ArgMatches.{ArgMatches}
use Rattle.run_core.specs.Names.{wanted_by}
use Rattle.command_line.specs.CommandLine.{asked_of}

unwrap_or-map : {A B : Type 0} (f : A → B) (o : Option A) (d : A) → f (unwrap_or o d) ≡ unwrap_or (option_map f o) (f d)
unwrap_or-map f None d = refl
unwrap_or-map f (Some x) d = refl

-- a text, or what stands for it
pub text_is : (m : ArgMatches) (id : Text) (text d : Bor Text) (o : Option (Bor Text)) (t : Text) → text ≡ unwrap_or o d
    → option_map (λ s. s.now) o ≡ first_value (found_of m) id → d.now ≡ t → text.now ≡ unwrap_or (first_of id (rows_of (found_of m))) t
text_is m id text d o t is p same =
    ap (λ s. s.now) is ∙ unwrap_or-map (λ s. s.now) o d ∙ ap₂ unwrap_or (p ∙ first_value-rows (found_of m) id) same

-- texts, or none
pub texts_are : (m : ArgMatches) (id : Text) (texts d : Bor (List (Bor Text))) (o : Option (Bor (List (Bor Text)))) → texts ≡ unwrap_or o d
    → option_map (λ s. map (λ v. v.now) s.now) o ≡ option_map raw_values (matched_of (found_of m) id) → map (λ v. v.now) d.now ≡ []
    → map (λ v. v.now) texts.now ≡ unwrap_or (all_of id (rows_of (found_of m))) []
texts_are m id texts d o is p none =
    ap (λ s. map (λ v. v.now) s.now) is ∙ unwrap_or-map (λ s. map (λ v. v.now) s.now) o d ∙ ap₂ unwrap_or (p ∙ raw_values-rows (found_of m) id) none

-- the name and the documents that were looked up are those that are asked for
pub wanted_is : (m : ArgMatches) (name srv : Bor Text) (o : Option (Bor Text)) → name ≡ unwrap_or o srv
    → option_map (λ s. s.now) o ≡ first_value (found_of m) (codes "name") → srv.now ≡ codes "srv"
    → (documents none : Bor (List (Bor Text))) (p : Option (Bor (List (Bor Text)))) → documents ≡ unwrap_or p none
    → option_map (λ s. map (λ v. v.now) s.now) p ≡ option_map raw_values (matched_of (found_of m) (codes "doc")) → map (λ v. v.now) none.now ≡ []
    → wanted_by name.now (map (λ v. v.now) documents.now) ≡ asked_of m
wanted_is m name srv o named found default documents none p listed all empty =
    ap₂ wanted_by (text_is m (codes "name") name srv o (codes "srv") named found default) (texts_are m (codes "doc") documents none p listed all empty)
