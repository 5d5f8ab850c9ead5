use Rattle.std.proofs.Common.{◌≡◌, ◌⊎◌, inl, inr, sym, ◌∙◌}
use Rattle.std.proofs.lemmas.Result.{IfOk-weaker, IfErr-weaker}
use Rattle.sqlite.specs.Held.{state}
use Rattle.sqlite.proofs.StateLemmas.{survives_weaker}
use Rattle.stored_rows.specs.Tables.{copy_schema, HasBoth, HasNeither}
use Rattle.stored_rows.specs.Steps.{IsBare, IsIdle, IsOurs}
use Rattle.log_copy.proofs.OpenLemmas.{any_error, bare_is_neither, copy_is_both, outside_if, inside_if, both_ok, never_refused, survives_same}
use Rattle.log_copy.proofs.open.open.Goals as goal

pub returns-then-not-is_autocommit : goal.returns-then-not-is_autocommit
returns-then-not-is_autocommit g c =
    let old = state g.S.Store c.args.conn.now in
    let inside = inside_if c.is_autocommit.result old.in_transaction c.is_autocommit.ensures.value c.if-not-is_autocommit.true in
    record {
      good = tt;
      alone = tt;
      ok = λ clean. tt;
      kept = λ clean. tt;
      accepts = λ clean was sound serves refused. inside serves.autocommit;
      crash = λ ours. survives_same old _;
      outside = λ clean same. same;
      refused = λ is. survives_same old _;
      bare = λ is it. inside it.autocommit;
      no_copy = λ clean is. inl inside;
      taken = λ clean. tt;
      commits = survives_same old _;
      asked = λ is. absurd cc;
      database = λ clean is. absurd cc;
    }

pub returns-in-Neither : goal.returns-in-Neither
returns-in-Neither g c =
    let old = state g.S.Store c.args.conn.now in
    let no_copy : old.now.schema ≡ copy_schema → ⊥ = λ is. absurd (let both = copy_is_both old.now.schema c.find_tables.result (rw c.schema.ensures.value at c.find_tables.ensures.both) is in let here = c.in-Neither.is in cc) in
    let autocommit = outside_if c.is_autocommit.result old.in_transaction c.is_autocommit.ensures.value c.if-not-is_autocommit.false in
    let neither : HasNeither old.now.schema = (rw c.schema.ensures.value at c.find_tables.ensures.neither).0 c.in-Neither.is in
    let is_bare : IsOurs old → IsBare old = λ ours. record { autocommit = autocommit; schema = elim ours [ inl none ↦ none | inr copy ↦ absurd (no_copy copy) ] } in
    record {
      good = c.fresh.ensures.good;
      alone = IfOk-weaker c.fresh.result _ _ (λ o same ours. same ∙ c.is_alone-is_alone.ensures.1 ours) c.fresh.ensures.alone;
      ok = λ clean. both_ok c.fresh.result _ _ _ c.fresh.ensures.alone (c.fresh.ensures.ok clean) (λ o same opens alone. opens (is_bare (c.is_alone-is_alone.ensures.0 (sym same ∙ alone))));
      kept = λ clean. IfOk-weaker c.fresh.result _ _ (λ o same was serves. absurd (no_copy serves.schema)) c.fresh.ensures.alone;
      accepts = λ clean. IfErr-weaker c.fresh.result _ _ (λ e is was sound serves refused. no_copy serves.schema) c.fresh.ensures.err;
      crash = λ ours. survives_weaker old (state g.S.Store c.fresh.new.conn) _ _ (λ clean db h. inl (is_bare ours, h (is_bare ours))) c.fresh.ensures.crash;
      outside = c.fresh.ensures.outside;
      refused = λ is. absurd (never_refused c.fresh.result c.fresh.ensures.err is);
      bare = λ is. absurd (never_refused c.fresh.result c.fresh.ensures.err is);
      no_copy = λ clean. IfErr-weaker c.fresh.result _ _ (λ e same is. absurd cc) c.fresh.ensures.err;
      taken = λ clean. IfOk-weaker c.fresh.result _ _ (λ o made. inl (neither, made)) (c.fresh.ensures.made clean);
      commits = survives_weaker old (state g.S.Store c.fresh.new.conn) _ _ (λ clean db h. inl (neither, h)) c.fresh.ensures.commits;
      asked = IfErr-weaker c.fresh.result _ _ (λ e same is. record { autocommit = autocommit; tables = inl neither }) c.fresh.ensures.err;
      database = λ clean. IfErr-weaker c.fresh.result _ _ (λ e fails is. inl (neither, fails)) (c.fresh.ensures.database clean);
    }

pub returns-in-Both : goal.returns-in-Both
returns-in-Both g c =
    let old = state g.S.Store c.args.conn.now in
    let not_bare : IsBare old → ⊥ = λ it. absurd (let neither = bare_is_neither old.now.schema c.find_tables.result (rw c.schema.ensures.value at c.find_tables.ensures.neither) it.schema in let here = c.in-Both.is in cc) in
    let both : HasBoth old.now.schema = (rw c.schema.ensures.value at c.find_tables.ensures.both).0 c.in-Both.is in
    let idle : IsIdle old = record { autocommit = outside_if c.is_autocommit.result old.in_transaction c.is_autocommit.ensures.value c.if-not-is_autocommit.false; settled = c.is_autocommit.ensures.settled c.if-not-is_autocommit.false } in
    let is_copy : IsOurs old → old.now.schema ≡ copy_schema = λ ours. elim ours [ inl none ↦ absurd (not_bare (record { autocommit = idle.autocommit; schema = none })) | inr copy ↦ copy ] in
    record {
      good = c.stored.ensures.good;
      alone = IfOk-weaker c.stored.result _ _ (λ o same ours. same ∙ c.is_alone-is_alone.ensures.1 ours) c.stored.ensures.alone;
      ok = λ clean. both_ok c.stored.result _ _ _ c.stored.ensures.alone (c.stored.ensures.ok clean) (λ o same opens alone. opens idle (is_copy (c.is_alone-is_alone.ensures.0 (sym same ∙ alone))));
      kept = c.stored.ensures.kept;
      accepts = c.stored.ensures.accepts;
      crash = λ ours. survives_weaker old (state g.S.Store c.stored.new.conn) _ _ (λ clean db h. inr h) (c.stored.ensures.crash idle (is_copy ours));
      outside = c.stored.ensures.outside;
      refused = c.stored.ensures.refused;
      bare = λ is. not_bare;
      no_copy = λ clean. IfErr-weaker c.stored.result _ _ (λ e none is. inr (inr (both, none is))) (c.stored.ensures.no_copy clean);
      taken = λ clean. IfOk-weaker c.stored.result _ _ (λ o read. inr (both, read)) (c.stored.ensures.read clean);
      commits = c.stored.ensures.commits both;
      asked = any_error c.stored.result (λ e is. record { autocommit = idle.autocommit; tables = inr both });
      database = λ clean. IfErr-weaker c.stored.result _ _ (λ e fails is. inr (both, fails is)) (c.stored.ensures.database clean);
    }

pub returns-in-Other : goal.returns-in-Other
returns-in-Other g c =
    let old = state g.S.Store c.args.conn.now in
    let no_copy : old.now.schema ≡ copy_schema → ⊥ = λ is. absurd (let both = copy_is_both old.now.schema c.find_tables.result (rw c.schema.ensures.value at c.find_tables.ensures.both) is in let here = c.in-Other.is in cc) in
    let not_bare : IsBare old → ⊥ = λ it. absurd (let neither = bare_is_neither old.now.schema c.find_tables.result (rw c.schema.ensures.value at c.find_tables.ensures.neither) it.schema in let here = c.in-Other.is in cc) in
    let other : HasNeither old.now.schema ⊎ HasBoth old.now.schema → ⊥ = λ some. elim some [
      | inl neither ↦ absurd (let is = (rw c.schema.ensures.value at c.find_tables.ensures.neither).1 neither in let here = c.in-Other.is in cc)
      | inr both ↦ absurd (let is = (rw c.schema.ensures.value at c.find_tables.ensures.both).1 both in let here = c.in-Other.is in cc)
    ] in
    record {
      good = tt;
      alone = tt;
      ok = λ clean. tt;
      kept = λ clean. tt;
      accepts = λ clean was sound serves refused. no_copy serves.schema;
      crash = λ ours. survives_same old _;
      outside = λ clean same. same;
      refused = λ is. survives_same old _;
      bare = λ is. not_bare;
      no_copy = λ clean is. inr (inl other);
      taken = λ clean. tt;
      commits = survives_same old _;
      asked = λ is. absurd cc;
      database = λ clean is. absurd cc;
    }
