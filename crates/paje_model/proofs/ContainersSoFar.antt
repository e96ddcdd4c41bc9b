-- A table of containers stands for one line more.
use Rattle.std.proofs.Common.{◌≡◌, ℕ, ◌≤◌, true, false, List, [], ◌∷◌, ◌++◌, length, map, set}
use Rattle.std.proofs.Common.{slice_get, position, Some, None, is_some, sym, ◌∙◌, ap, subst}
use Rattle.std.proofs.Common.{arith}
use Rattle.std.specs.List.{enumerate_from}
use Rattle.std.specs.Option.{option_map}
use Rattle.std.proofs.lemmas.List.{append-nil, length-map, map-append, set-set}
use Rattle.std.proofs.lemmas.List.FromFn.{length-enumerate_from}
use Rattle.list_lemmas.proofs.Found.{any-place}
use Rattle.list_lemmas.proofs.Maps.{enumerate-get}
use Rattle.list_lemmas.proofs.Positions.{slice_get-set}
use Rattle.trace_base.specs.declared.names.Track.{Track}
use Rattle.paje_defs.specs.declared.event_name.EventName.TheVariants.{CreateContainer, DestroyContainer}
use Rattle.paje_defs.specs.declared.role.Role.TheVariants as roles
use Rattle.paje_lines.specs.EventLine.{EventLine, creates, is_state_event, text_of}
use Rattle.paje_lines.specs.Containers.{container_named, containers_in, created_by, destruction}
use Rattle.paje_lines.specs.States.{is_same, last_time, track_named, tracks_in}
use Rattle.paje_lines.specs.Types.{rooted_entity}
use Rattle.paje_model.specs.declared.container_table.ContainerTable.{ContainerTable}
use Rattle.paje_model.specs.declared.container_table.Existing.{Existing}
use Rattle.paje_model.specs.ContainerTable.{ChangesContainer, TakesContainer, created, destroyed_by}
use Rattle.paje_model.specs.ContainerTable.{touched_at}
use Rattle.paje_model.specs.ContainerTable.{with_track}
use Rattle.paje_model.specs.EntityTable.{IsNamed, entities_in}
use Rattle.paje_model.specs.Existing.{AreContainers, existing_at, existing_in}
use Rattle.paje_model.proofs.ContainersMore.{containers-created, count}
use Rattle.paje_model.proofs.KeptFacts.{containers-kept}
use Rattle.paje_model.proofs.ExistingMore.{existing-created, existing-destroyed, existing-touched}
use Rattle.paje_model.proofs.ExistingMore.{no_declaration}
use Rattle.paje_model.proofs.ExistingMore.{with_new_track}

-- ---- the container at a place

pub existing-get : (lines : List EventLine) (c : ℕ)
    → slice_get (existing_in lines) c ≡ option_map (λ d. existing_at lines (c, d))
    (slice_get (containers_in lines) c)
existing-get lines c = enumerate-get (existing_at lines) 0 (containers_in lines) c c (omega arith)

pub existing-length : (lines : List EventLine) → length (existing_in lines) ≡ count lines
existing-length lines = length-map (enumerate_from 0 (containers_in lines)) (existing_at lines)
    ∙ length-enumerate_from 0 (containers_in lines)

-- ---- a line that creates a container

pub containers_created : (lines : List EventLine) (line : EventLine) (old new : ContainerTable)
    → AreContainers lines old → line.event ≡ CreateContainer
    → TakesContainer old new (rooted_entity line) line.time → AreContainers (lines ++ line ∷ []) new
containers_created lines line old new are is takes = record {
  entities = takes.entities ∙ (ap (λ es. es ++ rooted_entity line ∷ []) are.entities
      ∙ (sym (map-append (λ c. c.entity) (containers_in lines) (created_by line ∷ []))
      ∙ ap (map (λ c. c.entity)) (sym (containers-created lines line (ap creates is)))));
  named = takes.named;
  existing = takes.list ∙ (ap (λ es. es ++ created (text_of line roles.Name) line.time ∷ []) are.existing
      ∙ sym (existing-created lines line is));
}

-- ---- a line that changes one

changed : (lines : List EventLine) (line : EventLine) (old new : ContainerTable) (c : ℕ)
    (to : Existing → Existing) (e : Existing) → AreContainers lines old → ChangesContainer old new c to
    → creates line.event ≡ false → slice_get (existing_in lines) c ≡ Some e
    → existing_in (lines ++ line ∷ []) ≡ set (existing_in lines) c (to e)
    → AreContainers (lines ++ line ∷ []) new
changed lines line old new c to e are changes is at becomes = record {
  entities = ap entities_in changes.entities ∙ (are.entities
      ∙ ap (map (λ c. c.entity)) (sym (containers-kept lines line is)));
  named = subst IsNamed (sym changes.entities) are.named;
  existing = changes.list e (ap (λ es. slice_get es c) are.existing ∙ at)
      ∙ (ap (λ es. set es c (to e)) are.existing ∙ sym becomes);
}

-- a line that destroys one
pub containers_destroyed : (lines : List EventLine) (line : EventLine) (old new : ContainerTable) (c : ℕ)
    (e : Existing) → AreContainers lines old → line.event ≡ DestroyContainer
    → container_named lines (text_of line roles.Name) ≡ Some c → destruction lines c ≡ None
    → slice_get (existing_in lines) c ≡ Some e
    → ChangesContainer old new c (destroyed_by line.number line.time) → AreContainers (lines ++ line ∷ []) new
containers_destroyed lines line old new c e are is named none at changes =
    changed lines line old new c (destroyed_by line.number line.time) e are changes (ap creates is) at
    (existing-destroyed lines line c e is named none at)

-- ---- a state event

-- one change and then another
pub changes_both : (old mid new : ContainerTable) (c : ℕ) (to more : Existing → Existing)
    → ChangesContainer old mid c to → ChangesContainer mid new c more
    → ChangesContainer old new c (λ e. more (to e))
changes_both old mid new c to more first then = record {
  entities = then.entities ∙ first.entities;
  list = λ e at.
      then.list (to e) (ap (λ es. slice_get es c) (first.list e at)
      ∙ slice_get-set old.list.items c e (to e) at)
      ∙ (ap (λ es. set es c (more (to e))) (first.list e at) ∙ set-set old.list.items c (to e) (more (to e)));
}

-- on a track that was there
pub containers_touched : (lines : List EventLine) (line : EventLine) (old new : ContainerTable) (t : Track)
    (e : Existing) (place : ℕ) → AreContainers lines old → is_state_event line.event ≡ true
    → track_named lines line ≡ Some t → last_time lines t ≤ line.time
    → position (is_same t) (tracks_in lines) ≡ Some place → slice_get (existing_in lines) t.container ≡ Some e
    → ChangesContainer old new t.container (touched_at line.time) → AreContainers (lines ++ line ∷ []) new
containers_touched lines line old new t e place are is named below found at changes =
    changed lines line old new t.container (touched_at line.time) e are changes
    (no_declaration line.event is).0
    at (existing-touched lines line t e is named below at
    ∙ (ap (λ known. set (existing_in lines) t.container (touched_at line.time
    (with_new_track known (length (tracks_in lines)) e)))
    (any-place (is_same t) (tracks_in lines) ∙ ap is_some found)
    ∙ ap (λ ts. set (existing_in lines) t.container (touched_at line.time (record e { tracks = ts })))
    (append-nil e.tracks)))

-- on a new track
pub containers_tracked : (lines : List EventLine) (line : EventLine) (old mid new : ContainerTable)
    (t : Track)
    (e : Existing) → AreContainers lines old → is_state_event line.event ≡ true
    → track_named lines line ≡ Some t → last_time lines t ≤ line.time
    → position (is_same t) (tracks_in lines) ≡ None → slice_get (existing_in lines) t.container ≡ Some e
    → ChangesContainer old mid t.container (with_track (length (tracks_in lines)))
    → ChangesContainer mid new t.container (touched_at line.time) → AreContainers (lines ++ line ∷ []) new
containers_tracked lines line old mid new t e are is named below none at tracked touched =
    changed lines line old new t.container (λ e. touched_at line.time
    (with_track (length (tracks_in lines)) e)) e
    are (changes_both old mid new t.container (with_track (length (tracks_in lines))) (touched_at line.time)
    tracked touched) (no_declaration line.event is).0 at (existing-touched lines line t e is named below at
    ∙ ap (λ known. set (existing_in lines) t.container (touched_at line.time
    (with_new_track known (length (tracks_in lines)) e)))
    (any-place (is_same t) (tracks_in lines) ∙ ap is_some none))
