-- What a kind of profile keeps to, so that it can be made node by node.
use Rattle.std.specs.Prelude.{◌≡◌, ℕ, Bool, List, ◌++◌}
use Rattle.node_key.specs.Tree.{Tree}
use Rattle.profile_laws.specs.Laws.{OfCall, OfFitting, OfGroup, OfIdle, OfInside, OfOutside, ProfileOf}
use Rattle.trace_base.specs.declared.stream.TrackStream.{TrackStream}

pub record ProfileLaws {X : Type 0} (profile : ProfileOf X) (whole : Tree → X) (bare : ℕ → X)
    (sum : X → X → X) (closing : ℕ → Bool → X → X) (fits is_ordered : X → Type 0) : Type 0 where
  pub streams : (streams more : List TrackStream) (a b : ℕ)
      → profile (streams ++ more) a b ≡ sum (profile streams a b) (profile more a b)
  pub ordered : (streams : List TrackStream) (a b : ℕ) → is_ordered (profile streams a b)
  pub fit : OfFitting profile fits
  pub idle : OfIdle profile bare
  pub outside : OfOutside profile
  pub group : OfGroup profile
  pub call : OfCall profile closing
  pub inside : OfInside profile whole
