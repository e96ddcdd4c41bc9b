-- What a stake leads to, in the rooms and among the keys ever given, now and after calls.
use Rattle.std.proofs.Common.{◌≡◌, ℕ, ◌++◌, Contains, List, sym, ap, ◌∙◌, subst}
use Rattle.std.proofs.lemmas.Option.{same_Some}
use Rattle.node_key.specs.Leads.{KeepsLed, Leads}
use Rattle.node_key.specs.Stands.{KeyAt, Stands}
use Rattle.node_key.specs.declared.stake.Stake.{Stake}
use Rattle.store_laws.specs.Store.{key_in}
use Rattle.store_laws.proofs.ReachKept.{OneKeyEach, keeps_led, led_stands}
use Rattle.node_store.specs.Given.{ever, stakes_of}
use Rattle.node_store.specs.Kept.{AreKept, KeepsFor, KeepsNumbers, NodesKept}
use Rattle.node_store.specs.TreeUnder.{tree_under}
use Rattle.node_store.proofs.Reading.{found_ever, held_stands}
use Rattle.node_store.proofs.TreesUnder.{tree_is}

-- a node of the store now has the key that its number was ever given to, also after calls
pub one_key_ever : (old new : NodesKept) → AreKept old → KeepsNumbers old new
    → OneKeyEach (key_in old.rooms) (ever new.given)
one_key_ever old new kept keeps n a b was is =
    same_Some a b (sym (keeps n a (found_ever old kept n a was)) ∙ is)

-- ... and so has a node that the store had before calls
pub one_key_still : (old new : NodesKept) → AreKept old → AreKept new → KeepsNumbers old new
    → OneKeyEach (key_in old.rooms) (key_in new.rooms)
one_key_still old new kept kept' keeps n a b was is =
    one_key_ever old new kept keeps n a b was (found_ever new kept' n b is)

-- numbers are kept where all of them have the same keys
pub keeps_same : (old new : NodesKept) → ever new.given ≡ ever old.given → KeepsNumbers old new
keeps_same old new same n key is = ap (λ (at : KeyAt). at n) same ∙ is

-- what a held number leads to is the same in the rooms and among the keys ever given
pub led_ever : (s : NodesKept) (others : List Stake) (x : Stake) → AreKept s → KeepsFor s others
    → Contains (stakes_of s.given ++ others) x → KeepsLed (key_in s.rooms) (ever s.given) x.number
led_ever s others x kept keeps among =
    keeps_led (key_in s.rooms) (ever s.given) x.number x.tree x.tree
    (one_key_ever s s kept (λ n key is. is)) (keeps.counted.stands x among)
    (held_stands s others x kept keeps among)

-- each number that it leads to is a node, and stands for the tree that it was given for
pub stands_ever : (s : NodesKept) (others : List Stake) (x : Stake) (n : ℕ) → AreKept s → KeepsFor s others
    → Contains (stakes_of s.given ++ others) x → Leads (key_in s.rooms) x.number n
    → Stands (key_in s.rooms) n (tree_under (ever s.given) n)
stands_ever s others x n kept keeps among leads =
    let led = led_ever s others x kept keeps among in
    let (t, stands) = led_stands (key_in s.rooms) x.number x.tree (keeps.counted.stands x among) n leads in
    let same = tree_is (ever s.given) n t ((led.trees n t leads).0 stands) in
    subst (Stands (key_in s.rooms) n) (sym same) stands

-- what a number leads to that is held before and after calls stays
pub led_still : (old new : NodesKept) (others others' : List Stake) (x : Stake) → AreKept old → AreKept new
    → KeepsNumbers old new → KeepsFor old others → KeepsFor new others'
    → Contains (stakes_of old.given ++ others) x → Contains (stakes_of new.given ++ others') x
    → KeepsLed (key_in old.rooms) (key_in new.rooms) x.number
led_still old new others others' x kept kept' numbers keeps keeps' was is =
    keeps_led (key_in old.rooms) (key_in new.rooms) x.number x.tree x.tree
    (one_key_still old new kept kept' numbers) (keeps.counted.stands x was) (keeps'.counted.stands x is)
