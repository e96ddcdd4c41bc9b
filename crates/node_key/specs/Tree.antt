-- What a tree of calls is: a function, a duration, and the kids, each with the gap before it.
use Rattle.std.specs.Prelude.{◌≡◌, ℕ, ◌+◌, max, List, [], ◌∷◌, refl, Bool, true, false, ◌&&◌, ◌==◌, Option}
use Rattle.std.specs.Prelude.{Some, None}
use Rattle.std.specs.Coded.{Coded, code_by, coded×, coded_ℕ, coded_list, coded_option}
use Rattle.std.proofs.Common.{◌∙◌, ap}

-- The kids of a node, in order. Of each there are the gap from the end of the kid before it, or from the
-- node's start, the function and the duration of its tree, and the kids of its own; then the kids behind it.
pub data Kids : Type 0 where
  no_kids : Kids
  kid : (gap func dur : ℕ) (inner more : Kids) → Kids

-- A tree: the function of its node, 0 for a group, its duration in nanoseconds, and its kids.
pub record Tree : Type 0 where
  pub func : ℕ
  pub dur : ℕ
  pub kids : Kids

-- how many kids there are
abbrev pub count : Kids → ℕ
count no_kids = 0
count (kid gap func dur inner more) = count more + 1

-- the gaps and the durations of the kids, added up
abbrev pub total : Kids → ℕ
total no_kids = 0
total (kid gap func dur inner more) = gap + dur + total more

-- one more than the height of the highest kid, 0 where there is none
abbrev pub height_above : Kids → ℕ
height_above no_kids = 0
height_above (kid gap func dur inner more) = max (height_above inner + 1) (height_above more)

-- how many nodes there are below, counted with repeats
abbrev pub nodes_below : Kids → ℕ
nodes_below no_kids = 0
nodes_below (kid gap func dur inner more) = nodes_below inner + nodes_below more + 1

-- the height of a tree: 0 for a leaf
abbrev pub height : Tree → ℕ
height t = height_above t.kids

-- the nodes of a tree, counted with repeats
abbrev pub nodes : Tree → ℕ
nodes t = nodes_below t.kids + 1

-- whether two lists of kids are the same
abbrev pub same_kids : Kids → Kids → Bool
same_kids no_kids no_kids = true
same_kids (kid gap func dur inner more) (kid gap' func' dur' inner' more') =
    gap == gap' && func == func' && dur == dur' && same_kids inner inner' && same_kids more more'
same_kids _ _ = false

-- whether two trees are the same
abbrev pub same_tree : Tree → Tree → Bool
same_tree t u = t.func == u.func && t.dur == u.dur && same_kids t.kids u.kids

-- Kids as a list of words, from which a stack of kids gives them back: none of them, or the kid that is made
-- of the two last on the stack.
abbrev Word : Type 0
Word = Option (ℕ × (ℕ × ℕ))

abbrev words : Kids → List Word → List Word
words no_kids behind = None ∷ behind
words (kid gap func dur inner more) behind = words inner (words more (Some (gap, (func, dur)) ∷ behind))

abbrev stacked : List Word → List Kids → List Kids
stacked [] stack = stack
stacked (None ∷ ws) stack = stacked ws (no_kids ∷ stack)
stacked (Some w ∷ ws) (more ∷ inner ∷ stack) = stacked ws (kid w.0 w.1.0 w.1.1 inner more ∷ stack)
stacked (Some w ∷ ws) _ = []

abbrev last_kids : List Kids → Kids
last_kids [] = no_kids
last_kids (k ∷ ks) = k

pub stacked-words : (k : Kids) (ws : List Word) (stack : List Kids) → stacked (words k ws) stack ≡ stacked ws
    (k ∷ stack)
stacked-words no_kids ws stack = refl
stacked-words (kid gap func dur inner more) ws stack =
    stacked-words inner (words more (Some (gap, (func, dur)) ∷ ws)) stack
    ∙ stacked-words more (Some (gap, (func, dur)) ∷ ws) (inner ∷ stack)

-- kids are stored as words
abbrev pub kids_code : Coded Kids
kids_code =
    code_by (List Word) (coded_list (coded_option (coded× coded_ℕ (coded× coded_ℕ coded_ℕ))))
    (λ k. words k [])
    (λ ws. last_kids (stacked ws [])) (λ k. ap last_kids (stacked-words k [] []))

-- a tree is stored as its function, its duration and its kids
abbrev pub tree_code : Coded Tree
tree_code =
    code_by (ℕ × (ℕ × Kids)) (coded× coded_ℕ (coded× coded_ℕ kids_code)) (λ t. (t.func, (t.dur, t.kids)))
    (λ p. record { func = p.0; dur = p.1.0; kids = p.1.1 }) (λ _. refl)
