-- What a table of entities finds, by the entries of its maps.
use Rattle.std.proofs.Common.{◌≡◌, ℕ, suc, Bool, true, false, cond, List, [], ◌∷◌, ◌++◌, length, refl, sym}
use Rattle.std.proofs.Common.{ap}
use Rattle.std.proofs.Common.{◌∙◌, subst, map, position, Option, Some, None, is_some}
use Rattle.std.specs.Prelude.{Vec}
use Rattle.std.specs.List.{find}
use Rattle.std.specs.Map.{lookup, keys_of}
use Rattle.std.specs.Option.{option_or, option_map}
use Rattle.std.specs.Str.{bytes_eq}
use Rattle.std.specs.Cmp.Lexicographic.{bytes_decides}
use Rattle.std.proofs.lemmas.List.{map-append}
use Rattle.std.proofs.lemmas.Option.{none-some}
use Rattle.indexmap.specs.IndexMap.{insert_entry}
use Rattle.indexmap.proofs.MapLemmas.{absent_from_lookup, insert_entry-absent, some_index}
use Rattle.list_lemmas.proofs.Found.{lookup-push}
use Rattle.list_lemmas.proofs.Options.{is_None, or_None}
use Rattle.list_lemmas.proofs.Places.{position-map, position-push}
use Rattle.paje_model.specs.declared.entity_table.Declaration.{Declaration}
use Rattle.paje_model.specs.EntityTable.{entity_at}
use Rattle.paje_lines.specs.Found.{Entity, has_alias, has_name}

-- a text that stands for a key, and the comparison of keys
abbrev stands_for : {A : Type 0} → List ℕ → Vec ℕ A → Bool
stands_for text k = bytes_eq text k.items

abbrev same_key : {A : Type 0} → Vec ℕ A → Vec ℕ A → Bool
same_key k q = bytes_eq k.items q.items

-- ---- look-ups by the alias

pub alias-place : {A : Type 0} (text : List ℕ) (es : List (Vec ℕ A × Declaration))
    → position (λ k. bytes_eq text k.items) (keys_of es) ≡ position (has_alias text) (map entity_at es)
alias-place text es = position-map (stands_for text) (λ e. e.0) es
    ∙ sym (position-map (has_alias text) entity_at es)

line_by : {A : Type 0} (b : Bool) (e : Vec ℕ A × Declaration) (found : Option Entity)
    (later : Option Declaration) → option_map (λ d. d.line) later ≡ option_map (λ e. e.line) found
    → option_map (λ d. d.line) (cond b (Some e.1) later) ≡ option_map (λ e. e.line) (cond b (Some
    (entity_at e)) found)
line_by true e found later is = refl
line_by false e found later is = is

pub alias-line : {A : Type 0} (text : List ℕ) (es : List (Vec ℕ A × Declaration))
    → option_map (λ d. d.line) (lookup (λ k. bytes_eq text k.items) es)
    ≡ option_map (λ e. e.line) (find (has_alias text) (map entity_at es))
alias-line text [] = refl
alias-line text (e ∷ es) = line_by (bytes_eq text e.0.items) e (find (has_alias text) (map entity_at es))
    (lookup (stands_for text) es) (alias-line text es)

nothing_by : (found : Option Declaration) → option_map (λ d. d.line) found ≡ None → found ≡ None
nothing_by None is = refl
nothing_by (Some d) is = absurd (none-some d.line (sym is))

absent : {A : Type 0} (text : List ℕ) (es : List (Vec ℕ A × Declaration))
    → find (has_alias text) (map entity_at es) ≡ None → lookup (stands_for text) es ≡ None
absent text es none = nothing_by (lookup (stands_for text) es) (alias-line text es
    ∙ ap (option_map (λ e. e.line)) none)

-- ---- a new entry goes last

goes_last : {A X : Type 0} (text : List ℕ) (es : List (Vec ℕ A × X)) (k : Vec ℕ A) (x : X)
    → k.items ≡ text → lookup (stands_for text) es ≡ None
    → insert_entry same_key es k x ≡ es ++ (k, x) ∷ []
goes_last text es k x is none = insert_entry-absent same_key k x es (absent_from_lookup (same_key k) es
    (ap (λ text. lookup (stands_for text) es) is ∙ none))

pub entities-more : {A : Type 0} (text : List ℕ) (es new : List (Vec ℕ A × Declaration)) (k : Vec ℕ A)
    (d : Declaration) → k.items ≡ text → find (has_alias text) (map entity_at es) ≡ None
    → new ≡ insert_entry same_key es k d
    → map entity_at new ≡ map entity_at es ++ record { alias = text; name = d.name; line = d.line } ∷ []
entities-more text es new k d is none into =
    ap (map entity_at) (into ∙ goes_last text es k d is (absent text es none))
    ∙ (map-append entity_at es ((k, d) ∷ [])
    ∙ ap (λ alias. map entity_at es ++ record { alias = alias; name = d.name; line = d.line } ∷ []) is)

pub length-entities : {A : Type 0} (es : List (Vec ℕ A × Declaration)) → length (map entity_at es) ≡ length es
length-entities [] = refl
length-entities (e ∷ es) = ap suc (length-entities es)

-- ---- the place that is noted for a name

pub noted_new : {A : Type 0} (name : List ℕ) (es new : List (Vec ℕ A × ℕ)) (k : Vec ℕ A) (place : ℕ)
    → k.items ≡ name → lookup (λ k. bytes_eq name k.items) es ≡ None
    → new ≡ insert_entry same_key es k place → (text : List ℕ)
    → lookup (λ k. bytes_eq text k.items) new
    ≡ option_or (lookup (λ k. bytes_eq text k.items) es) (cond (bytes_eq text name) (Some place) None)
noted_new name es new k place is none into text =
    ap (lookup (stands_for text)) (into ∙ goes_last name es k place is none)
    ∙ (lookup-push (stands_for text) es k place
    ∙ ap (λ q. option_or (lookup (stands_for text) es) (cond (bytes_eq text q) (Some place) None)) is)

pub noted_old : {A : Type 0} (name : List ℕ) (es : List (Vec ℕ A × ℕ)) (first place : ℕ)
    → Some first ≡ lookup (λ k. bytes_eq name k.items) es → (text : List ℕ)
    → lookup (λ k. bytes_eq text k.items) es
    ≡ option_or (lookup (λ k. bytes_eq text k.items) es) (cond (bytes_eq text name) (Some place) None)
noted_old name es first place there text = by (bytes_eq text name) refl
  where
    by : (b : Bool) → bytes_eq text name ≡ b → lookup (stands_for text) es
        ≡ option_or (lookup (stands_for text) es) (cond b (Some place) None)
    by true e = subst (λ o. o ≡ option_or o (Some place)) (there ∙ ap (λ q. lookup (stands_for q) es)
        (sym ((bytes_decides text name).0 e))) refl
    by false e = (sym (or_None (lookup (stands_for text) es)))

-- ---- names after one more

pub named-more : (places : List ℕ → Option ℕ) (old new : List Entity) (e : Entity) (place : ℕ)
    → place ≡ length old → new ≡ old ++ e ∷ [] → (text : List ℕ)
    → places text ≡ option_or (position (has_name text) old) (cond (bytes_eq text e.name) (Some place) None)
    → places text ≡ position (has_name text) new
named-more places old new e place at is text noted =
    noted ∙ (ap (λ n. option_or (position (has_name text) old) (cond (bytes_eq text e.name) (Some n) None)) at
    ∙ (sym (position-push (has_name text) old e) ∙ ap (position (has_name text)) (sym is)))

-- ---- functions

pub text-place : {A X : Type 0} (text : List ℕ) (es : List (Vec ℕ A × X))
    → position (λ k. bytes_eq text k.items) (keys_of es) ≡ position (bytes_eq text) (map (λ k. k.items)
    (keys_of es))
text-place text es = sym (position-map (bytes_eq text) (λ k. k.items) (keys_of es))

-- what a look-up by place doesn't find isn't there
pub missed : {K X : Type 0} (t : K → Bool) (es : List (K × X)) → position t (keys_of es) ≡ None
    → lookup t es ≡ None
missed t es none = is_None (lookup t es) (sym (some_index t es) ∙ ap is_some none)

pub texts-more : {A X : Type 0} (text : List ℕ) (es new : List (Vec ℕ A × X)) (k : Vec ℕ A) (x : X)
    → k.items ≡ text → position (bytes_eq text) (map (λ k. k.items) (keys_of es)) ≡ None
    → new ≡ insert_entry same_key es k x
    → map (λ k. k.items) (keys_of new) ≡ map (λ k. k.items) (keys_of es) ++ text ∷ []
texts-more text es new k x is none into =
    ap (λ es. map (λ k. k.items) (keys_of es)) (into ∙ goes_last text es k x is
    (missed (stands_for text) es (text-place text es ∙ none)))
    ∙ (ap (map (λ k. k.items)) (map-append (λ e. e.0) es ((k, x) ∷ []))
    ∙ (map-append (λ k. k.items) (keys_of es) (k ∷ [])
    ∙ ap (λ text. map (λ k. k.items) (keys_of es) ++ text ∷ []) is))
