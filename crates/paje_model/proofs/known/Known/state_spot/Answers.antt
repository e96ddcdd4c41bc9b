use Rattle.std.proofs.Common.{◌≡◌, None, Some, position, refl, sym, ap, ◌∙◌}
use Rattle.list_lemmas.proofs.Options.{MatchResult-from_fault}
use Rattle.trace_base.specs.declared.names.Track.{Track}
use Rattle.paje_lines.specs.EventLine.{enters, line_of}
use Rattle.paje_lines.specs.Reasons.{met, state_reason}
use Rattle.paje_lines.specs.States.{is_same}
use Rattle.paje_model.specs.FunctionTable.{functions_kept}
use Rattle.paje_model.specs.StateSpot.{IsSpot}
use Rattle.paje_model.proofs.StateSteps.{function_found, names_track, on_named, state_row}
use Rattle.paje_model.proofs.known.Known.state_spot.Goals as goal

pub returns-in_err-kind : goal.returns-in_err-kind
returns-in_err-kind c n before known =
    let line = line_of n c.args.fields.now in
    MatchResult-from_fault (IsSpot before line) (λ fault. state_reason before line
    ≡ Some fault) c.from_residual.result
    c.in_err-kind.field-0.0 c.from_residual.ensures.1
    (state_row before line _ _ _ (c.in_err-kind.ensures n before known) refl refl)

pub returns-in_err-container : goal.returns-in_err-container
returns-in_err-container c n before known =
    let line = line_of n c.args.fields.now in
    MatchResult-from_fault (IsSpot before line) (λ fault. state_reason before line ≡ Some fault)
    c.from_residual-in_err-container.result c.in_err-container.field-0.0
    c.from_residual-in_err-container.ensures.1
    (state_row before line _ _ _ (c.in_ok-kind.ensures n before known).0
    (c.in_err-container.ensures n before known) refl)

pub returns-in_err-check : goal.returns-in_err-check
returns-in_err-check c n before known =
    let line = line_of n c.args.fields.now in
    let kind = c.in_ok-kind.ensures n before known in
    let container = c.in_ok-container.ensures n before known in
    let named = names_track before line c.in_ok-kind.kind c.in_ok-container.container kind.1 container.1 in
    let track : Track = record { container = c.in_ok-container.container; kind = c.in_ok-kind.kind } in
    let place = c.place-place.ensures ∙ ap (position (is_same track)) known.tracks.tracks in
    let function = function_found before line c.args.self.now.values c.in_ok-kind.kind c.text_of.result.now
    c.text-text.result.now (functions_kept c.args.self.now.functions) c.find-function.result c.enters.result
    known.values kind.1 (c.text_of.ensures n) known.functions (c.enters.ensures ∙ ap enters c.kind.ensures)
    c.text-text.ensures c.find-function.ensures in
    let reads = c.state_met.ensures before line known named place function in
    MatchResult-from_fault (IsSpot before line) (λ fault. state_reason before line ≡ Some fault)
    c.from_residual-in_err-check.result c.in_err-check.field-0.0 c.from_residual-in_err-check.ensures.1
    (state_row before line _ _ _ kind.0 container.0 (on_named before line track
    (Some c.in_err-check.field-0.0)
    named (c.in_err-check.ensures line (met before line track) (sym c.kind-2.ensures) (sym c.time.ensures)
    reads)))

pub returns : goal.returns
returns c n before known =
    let line = line_of n c.args.fields.now in
    let kind = c.in_ok-kind.ensures n before known in
    let container = c.in_ok-container.ensures n before known in
    let named = names_track before line c.in_ok-kind.kind c.in_ok-container.container kind.1 container.1 in
    let track : Track = record { container = c.in_ok-container.container; kind = c.in_ok-kind.kind } in
    let place = c.place-place.ensures ∙ ap (position (is_same track)) known.tracks.tracks in
    let function = function_found before line c.args.self.now.values c.in_ok-kind.kind c.text_of.result.now
    c.text-text.result.now (functions_kept c.args.self.now.functions) c.find-function.result c.enters.result
    known.values kind.1 (c.text_of.ensures n) known.functions (c.enters.ensures ∙ ap enters c.kind.ensures)
    c.text-text.ensures c.find-function.ensures in
    let reads = c.state_met.ensures before line known named place function in
    record {
      reason = state_row before line _ _ _ kind.0 container.0 (on_named before line track None named
          (c.in_ok-check.ensures line (met before line track) (sym c.kind-2.ensures) (sym c.time.ensures)
          reads).0);
      named = named;
      place = place;
      function = function;
    }
