use Rattle.std.proofs.Common.{◌∙◌, ap}
use Rattle.std.specs.List.{zip}
use Rattle.paje_model.specs.Finished.{streams_within}
use Rattle.paje_model.specs.TrackTable.{tracks_kept}
use Rattle.paje_model.proofs.TextSaid.{containers_finished, streams_finished, tracks_fit}
use Rattle.paje_model.proofs.known.Known.finish.Goals as goal

pub finish-requires : goal.finish-requires
finish-requires c = tracks_fit c.requires.0 c.args.self c.args.end c.as_slice.result.now c.requires.1
    c.requires.2 (cc (c.as_slice.ensures, c.in_ok-containers.ensures))

pub returns : goal.returns
returns c = λ lines are ends i. record {
  names = record {
    end = ends i;
    containers = containers_finished lines c.args.self c.args.end c.in_ok-containers.containers are ends
        c.in_ok-containers.ensures i;
    kinds = (ap (λ both. both.0) c.into_kinds-kinds.ensures ∙ are.types.kinds) i;
    link_kinds = (ap (λ both. both.1) c.into_kinds-kinds.ensures ∙ are.types.link_kinds) i;
    tracks = (c.in_ok-tracks.ensures.tracks ∙ are.tracks.tracks) i;
    functions = (c.in_ok-functions.ensures ∙ are.functions) i;
  };
  tracks = streams_finished lines c.args.self c.args.end c.in_ok-containers.containers
      c.in_ok-tracks.field-0.streams are ends c.in_ok-containers.ensures
      (c.in_ok-tracks.ensures.streams ∙ ap (λ cs. streams_within cs (zip (tracks_kept c.args.self.tracks)
      c.args.self.tracks.list.items)) c.as_slice.ensures) i;
  links = are.links i;
}
