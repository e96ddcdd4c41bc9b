-- What one seat of a hall has, and how its calls change it. Other seats may act between any two calls of this
-- one.
use Rattle.std.specs.Prelude.{◌≡◌, ℕ, Bool, List, [], ◌∷◌, ◌++◌, length}
use Rattle.std.specs.Bool.{OnTrue}
use Rattle.hall_history.specs.History.{Entry}
use Rattle.node_key.specs.Stakes.{Exchanges}
use Rattle.node_key.specs.declared.stake.Stake.{Stake}
use Rattle.hall_history.specs.declared.seat.PassView.{PassView}
use Rattle.hall_history.specs.declared.seat.PinView.{PinView}

-- A seat: its stakes, pins and load passes, the entries of the history that it has seen, which begin the
-- history, and the places of its own entries, rising.
pub record Seat : Type 0 where
  pub stakes : List Stake
  pub pins : List PinView
  pub passes : List PassView
  pub seen : List Entry
  pub places : List ℕ

-- ys goes on from xs
abbrev pub Begins : {X : Type 0} → List X → List X → Type 0
Begins {X} xs ys = (more : List X) × (ys ≡ xs ++ more)

-- the seat has neither stakes nor pins nor passes
pub record IsAtRest (seat : Seat) : Type 0 where
  pub no_stakes : seat.stakes ≡ []
  pub no_pins : seat.pins ≡ []
  pub no_passes : seat.passes ≡ []

-- no entry is made and nothing more is seen
pub record MakesNoEntry (old new : Seat) : Type 0 where
  pub seen : new.seen ≡ old.seen
  pub places : new.places ≡ old.places

-- some stakes are exchanged for others, and all else stays
pub record ExchangesStakes (old new : Seat) (taken given : List Stake) : Type 0 where
  pub stakes : Exchanges old.stakes new.stakes taken given
  pub entries : MakesNoEntry old new
  pub pins : new.pins ≡ old.pins
  pub passes : new.passes ≡ old.passes

-- One entry of this seat is made, at this place. Before it the seat may see entries of others; a seat that is
-- alone in its hall sees none.
pub record MakesEntry (alone : Bool) (old new : Seat) (entry : Entry) (place : ℕ) : Type 0 where
  pub before : List Entry
  pub grown : Begins old.seen before
  pub lone : OnTrue alone (before ≡ old.seen)
  pub seen : new.seen ≡ before ++ entry ∷ []
  pub last : place ≡ length new.seen
  pub places : new.places ≡ old.places ++ place ∷ []

-- the item stands once more, at the end
abbrev pub Adds : {X : Type 0} → List X → List X → X → Type 0
Adds old new x = new ≡ old ++ x ∷ []

-- at one place of the item stand these in its stead, and the others stay as they were
pub record Becomes {X : Type 0} (old new : List X) (item : X) (stead : List X) : Type 0 where
  pub front : List X
  pub back : List X
  pub was : old ≡ front ++ item ∷ back
  pub now : new ≡ front ++ (stead ++ back)

-- one place of the item is free
abbrev pub Removes : {X : Type 0} → List X → List X → X → Type 0
Removes old new x = Becomes old new x []

-- another item stands at one place of the item
abbrev pub Replaces : {X : Type 0} → List X → List X → X → X → Type 0
Replaces old new x y = Becomes old new x (y ∷ [])
