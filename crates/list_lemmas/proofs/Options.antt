-- Options and results, by what they are made of.
use Rattle.std.proofs.Common.{Bool, Err, IfSome, IsErrAnd, List, MatchResult, None, Ok, OnErr, OnOk, Option}
use Rattle.std.proofs.Common.{Result, Some, [], ap, arith, cond, false, inl, inr, is_none, is_some, length}
use Rattle.std.proofs.Common.{not, option_map, option_to_list, refl, subst, sym, true, true≢false, ℕ}
use Rattle.std.proofs.Common.{◌++◌, ◌<◌, ◌||◌, ◌≡◌, ◌≤◌, ◌⊎◌}
use Rattle.std.proofs.lemmas.Bool.{false≢true}
use Rattle.std.proofs.lemmas.Option.{none-some, same_Some}
use Rattle.std.specs.Bool.{if◌then◌else◌}
use Rattle.std.specs.List.{cons_option}
use Rattle.std.specs.Option.{option_or, option_zip}
use Rattle.std.specs.Prelude.{slice_get}
use Rattle.std.specs.Result.{IsOk, is_err, is_ok}

pub or_None : {X : Type 0} (o : Option X) → option_or o None ≡ o
or_None None = refl
or_None (Some x) = refl

pub or_Some : {X : Type 0} (o : Option X) (x : X) → is_some (option_or o (Some x)) ≡ true
or_Some None x = refl
or_Some (Some y) x = refl

pub or_stays : {X : Type 0} (o p : Option X) (x : X) → o ≡ Some x → option_or o p ≡ Some x
or_stays o p x e = ap (λ o. option_or o p) e

pub or_both : {X : Type 0} (P : X → Type 0) (first later : Option X) → IfSome first P → IfSome later P
    → IfSome (option_or first later) P
or_both P None later is other = other
or_both P (Some i) later is other = is

pub or_cond : {X : Type 0} (b : Bool) (x : X) (later first rest : Option X) → later ≡ option_or first rest
    → cond b (Some x) later ≡ option_or (cond b (Some x) first) rest
or_cond true x later first rest is = refl
or_cond false x later first rest is = is

pub some_or_none : {X : Type 0} (o : Option X) → (o ≡ None) ⊎ ((x : X) × (o ≡ Some x))
some_or_none None = inl refl
some_or_none (Some x) = inr (x, refl)

pub is_None : {X : Type 0} (o : Option X) → is_some o ≡ false → o ≡ None
is_None None e = refl
is_None (Some x) e = absurd (true≢false e)

pub is_none_by : {X : Type 0} (b : Bool) (o : Option X) → is_some o ≡ not b → b ≡ is_none o
is_none_by true None is = refl
is_none_by false (Some n) is = refl
is_none_by true (Some n) is = absurd (true≢false is)
is_none_by false None is = absurd (true≢false (sym is))

pub given_some : {X : Type 0} (o : Option X) → is_some o ≡ true → (x : X) × (o ≡ Some x)
given_some None e = absurd cc
given_some (Some x) e = (x, refl)

pub cond_given : {X : Type 0} (b : Bool) (o : Option X) (x : X) → cond b o None ≡ Some x → (b ≡ true)
    × (o ≡ Some x)
cond_given true o x e = (refl, e)
cond_given false o x e = absurd cc

pub cond_of_some : {X : Type 0} (b : Bool) (n size : X) → Some size ≡ cond b (Some n) None
    → (b ≡ true) × (n ≡ size)
cond_of_some true n size e = (refl, cc)
cond_of_some false n size e = cc

pub cond_of_none : {X : Type 0} (b : Bool) (n : X) → None ≡ cond b (Some n) None → b ≡ false
cond_of_none true n e = cc
cond_of_none false n e = refl

pub cond_unless : {X : Type 0} (b : Bool) (o : Option X) → b ≡ false → cond b o None ≡ None
cond_unless b o never = ap (λ b. cond b o None) never

pub cond_none_if : {F : Type 0} (b : Bool) (o : Option F) → (b ≡ true → o ≡ None) → cond b o None ≡ None
cond_none_if true o none = none refl
cond_none_if false o none = refl

-- a value that is given by a test is there where the test passes
pub cond_is_some : {X : Type 0} (b : Bool) (x : X) → is_some (cond b (Some x) None) ≡ b
cond_is_some true x = refl
cond_is_some false x = refl

-- nothing is told first where nothing is told later
pub none_before : {X : Type 0} (o p : Option X) → ((x : X) → o ≡ Some x → p ≡ Some x) → p ≡ None → o ≡ None
none_before None p later none = refl
none_before (Some x) p later none = absurd (some_differs x p (later x refl) none)
  where
    some_differs : {X : Type 0} (x : X) (p : Option X) → p ≡ Some x → p ≡ None → ⊥
    some_differs x p is none = cc

-- where nothing is told, neither the first nor a later one is
pub none_first : {F X : Type 0} (reason : Option F) (first : X) (later : Option X)
    → cond (is_some reason) (Some first) later ≡ None → (reason ≡ None) × (later ≡ None)
none_first None first later e = (refl, e)
none_first (Some fault) first later e = absurd (none-some first (sym e))

-- what is made of an option was made of what was there
pub option_map_found : {X Y : Type 0} (g : X → Y) (o : Option X) (y : Y) → option_map g o ≡ Some y
    → (x : X) × (o ≡ Some x) × (g x ≡ y)
option_map_found g None y is = absurd cc
option_map_found g (Some x) y is = (x, refl, same_Some (g x) y is)

pub option_map-or_stays : {X Y : Type 0} (f : X → Y) (o later : Option X) (y : Y) → option_map f o ≡ Some y
    → option_map f (option_or o later) ≡ Some y
option_map-or_stays f None later y is = absurd (none-some y is)
option_map-or_stays f (Some x) later y is = is

pub option_map-or_cond : {X Y : Type 0} (f : X → Y) (first : Option X) (b : Bool) (x : X)
    → option_map f (option_or first (cond b (Some x) None))
    ≡ option_or (option_map f first) (cond b (Some (f x)) None)
option_map-or_cond f (Some y) b x = refl
option_map-or_cond f None true x = refl
option_map-or_cond f None false x = refl

pub is_some-map : {X Y : Type 0} (g : X → Y) (o : Option X) → is_some (option_map g o) ≡ is_some o
is_some-map g None = refl
is_some-map g (Some x) = refl

pub IfSome-below : (low high : ℕ) → low ≤ high → (o : Option ℕ) → IfSome o (λ n. n < low)
    → IfSome o (λ n. n < high)
IfSome-below low high is None holds = tt
IfSome-below low high is (Some n) holds = omega (arith, is, holds)

pub cons_option-list : {X : Type 0} (o : Option X) → cons_option o [] ≡ option_to_list o
cons_option-list None = refl
cons_option-list (Some x) = refl

-- whether there is a first item, with one more in front that may be none
pub is_some-cons_option : {X : Type 0} (o : Option X) (xs : List X)
    → is_some (slice_get (cons_option o xs) 0) ≡ (is_some o || is_some (slice_get xs 0))
is_some-cons_option None xs = refl
is_some-cons_option (Some x) xs = refl

pub length-list_of_cond : {X Y : Type 0} (b : Bool) (f : X → Y) (o : Option X)
    → length (option_to_list (cond b (option_map f o) None)) ≤ cond b 1 0
length-list_of_cond false f o = omega arith
length-list_of_cond true f None = omega arith
length-list_of_cond true f (Some x) = omega arith

pub length-list_of_map : {X Y : Type 0} (f : X → Y) (o : Option X) → length (option_to_list (option_map f o))
    ≡ cond (is_some o) 1 0
length-list_of_map f None = refl
length-list_of_map f (Some x) = refl

pub length-list_of_zip : {X Y Z : Type 0} (f : X × Y → Z) (kind : Option X) (container : Option Y)
    → is_some kind ≡ true
    → is_some container ≡ true → length (option_to_list (option_map f (option_zip kind container))) ≡ 1
length-list_of_zip f (Some k) (Some c) is there = refl
length-list_of_zip f None container is there = absurd (true≢false (sym is))
length-list_of_zip f (Some k) None is there = absurd (true≢false (sym there))

-- no result is both
pub ok_not_err : {A E : Type 0} → (r : Result A E) → IsOk r → is_err r ≡ true → ⊥
ok_not_err (Ok a) ok err = false≢true err
ok_not_err (Err e) ok err = false≢true ok

-- what was appended where it didn't fail
pub appended_unless_err : {A E X : Type 0} → (r : Result A E) (xs ys zs : List X) → is_err r ≡ false
    → zs ≡ (if is_ok r then xs ++ ys else xs) → zs ≡ xs ++ ys
appended_unless_err (Ok a) xs ys zs ok is = is
appended_unless_err (Err e) xs ys zs ok is = absurd (false≢true (sym ok))

-- what holds of a result that is Ok holds where it isn't Err
pub told_unless_err : {X E : Type 0} (r : Result X E) (P : Type 0) → false ≡ is_err r → OnOk r P → P
told_unless_err (Ok x) P is on = on
told_unless_err (Err e) P is on = absurd (false≢true is)

pub MatchResult-from_fault : {X F : Type 0} (P : X → Type 0) (Q : F → Type 0) (r : Result X F) (fault : F)
    → IsErrAnd r (λ e. e ≡ fault) → Q fault → MatchResult r P Q
MatchResult-from_fault P Q (Ok x) fault is holds = absurd is
MatchResult-from_fault P Q (Err e) fault is holds = subst Q (sym is) holds

-- what holds of the list whether it was changed or not
pub either_way : {T E A : Type 0} (P : A → Type 0) (r : Result T E) (new a b : A) → OnOk r (new ≡ a)
    → OnErr r (new ≡ b) → P a → P b → P new
either_way P (Ok x) new a b h g pa pb = subst P (sym h) pa
either_way P (Err e) new a b h g pa pb = subst P (sym g) pb
