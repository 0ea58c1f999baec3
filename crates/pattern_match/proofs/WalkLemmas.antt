-- What the walk keeps true, over the tokens and the units that are left.
use Rattle.std.proofs.Common.{◌≡◌, ℕ, ◌+◌, ◌-◌, ◌≤◌, Bool, true, false, ◌||◌, ◌&&◌, zero, suc, if◌then◌else◌, length, drop, slice_get, List, [], ◌∷◌, Option, Some, None, refl, ap, sym, ◌∙◌, arith, ⊎_elim}
use Rattle.std.proofs.lemmas.Bool.{and_parts, or_cases, or_left, or_right, false≢true}
use Rattle.pattern_match.specs.declared.units.TextUnit.{TextUnit}
use Rattle.pattern_match.specs.declared.tokens.Token.{Token}
use Rattle.pattern_match.specs.declared.tokens.Token.TheVariants.{Any, One, Literal}
use Rattle.std.specs.List.{list_all}
use Rattle.pattern_match.specs.Tokens.{is_any}
use Rattle.pattern_match.specs.declared.walk.Retry.{Retry}
use Rattle.pattern_match.specs.declared.walk.Step.TheVariants.{Remember, Take, Fail}
use Rattle.pattern_match.specs.Steps.{step_of}
use Rattle.std.proofs.lemmas.List.{drop_more, drop_all}
use Rattle.pattern_match.proofs.TokenLemmas.{units-past}
use Rattle.std.proofs.lemmas.Option.{slice_get_within, get_or_from_slice_get}
use Rattle.pattern_match.specs.Units.{units}
use Rattle.pattern_match.specs.Matching.{some_suffix, first_and_rest, takes, tokens_match}

-- the list itself is one of its suffixes
pub suffix_itself : (test : List TextUnit → Bool) (us : List TextUnit) → test us ≡ true → some_suffix test us ≡ true
unfolding some_suffix
suffix_itself test [] h = h
suffix_itself test (u ∷ us) h = or_left _ _ h

-- a suffix of a suffix is a suffix
pub suffix-suffix : (test : List TextUnit → Bool) (us : List TextUnit) → some_suffix (some_suffix test) us ≡ true → some_suffix test us ≡ true
unfolding some_suffix
suffix-suffix test [] h = h
suffix-suffix test (u ∷ us) h =
    ⊎_elim (λ here. here) (λ later. or_right (test (u ∷ us)) _ (suffix-suffix test us later)) (or_cases (some_suffix test (u ∷ us)) _ h)

-- where a suffix has a first unit before what is tested, the test holds of a suffix of the list without its first unit
pub suffix-first : (first : TextUnit → Bool) (test : List TextUnit → Bool) (us : List TextUnit) (u : TextUnit) → some_suffix (first_and_rest first test) (u ∷ us) ≡ true → some_suffix test us ≡ true
unfolding some_suffix
suffix-first first test [] u h =
    ⊎_elim (λ here. (and_parts (first u) _ here).1) (λ none. absurd (false≢true none)) (or_cases (first u && test []) false h)
suffix-first first test (v ∷ us) u h =
    ⊎_elim (λ here. or_left _ _ (and_parts (first u) _ here).1) (λ later. or_right (test (v ∷ us)) _ (suffix-first first test us v later)) (or_cases (first u && test (v ∷ us)) _ h)

-- a token that is not Any
abbrev pub IsSingle : Token → Type 0
IsSingle Any = ⊥
IsSingle One = Unit {0}
IsSingle (Literal literal) = Unit {0}

pub tokens_match-any : (case_sensitive : Bool) (ts : List Token) (us : List TextUnit) → tokens_match case_sensitive (Any ∷ ts) us ≡ some_suffix (tokens_match case_sensitive ts) us
unfolding tokens_match
tokens_match-any case_sensitive ts us = refl

pub tokens_match-single : (case_sensitive : Bool) (t : Token) (ts : List Token) (us : List TextUnit) → IsSingle t → tokens_match case_sensitive (t ∷ ts) us ≡ first_and_rest (takes case_sensitive t) (tokens_match case_sensitive ts) us
unfolding tokens_match
tokens_match-single case_sensitive Any ts us h = absurd h
tokens_match-single case_sensitive One ts us h = refl
tokens_match-single case_sensitive (Literal literal) ts us h = refl

pub any-nil : (case_sensitive : Bool) (ts : List Token) → tokens_match case_sensitive (Any ∷ ts) [] ≡ tokens_match case_sensitive ts []
unfolding tokens_match some_suffix
any-nil case_sensitive ts = refl

pub any-cons : (case_sensitive : Bool) (ts : List Token) (u : TextUnit) (us : List TextUnit) → tokens_match case_sensitive (Any ∷ ts) (u ∷ us) ≡ (tokens_match case_sensitive ts (u ∷ us) || tokens_match case_sensitive (Any ∷ ts) us)
unfolding tokens_match some_suffix
any-cons case_sensitive ts u us = refl

pub nothing-cons : (case_sensitive : Bool) (u : TextUnit) (us : List TextUnit) → tokens_match case_sensitive [] (u ∷ us) ≡ false
unfolding tokens_match
nothing-cons case_sensitive u us = refl

-- what the tokens match, they match behind Any
pub any_itself : (case_sensitive : Bool) (ts : List Token) (us : List TextUnit) → tokens_match case_sensitive ts us ≡ true → tokens_match case_sensitive (Any ∷ ts) us ≡ true
any_itself case_sensitive ts us h = tokens_match-any case_sensitive ts us ∙ suffix_itself (tokens_match case_sensitive ts) us h

-- two Any are one
pub any-any : (case_sensitive : Bool) (ts : List Token) (us : List TextUnit) → tokens_match case_sensitive (Any ∷ Any ∷ ts) us ≡ true → tokens_match case_sensitive (Any ∷ ts) us ≡ true
unfolding tokens_match
any-any case_sensitive ts us h = suffix-suffix (tokens_match case_sensitive ts) us h

-- a token after Any takes at least the first unit
pub any-single : (case_sensitive : Bool) (t : Token) (ts : List Token) (u : TextUnit) (us : List TextUnit) → IsSingle t → tokens_match case_sensitive (Any ∷ t ∷ ts) (u ∷ us) ≡ true → tokens_match case_sensitive (Any ∷ ts) us ≡ true
unfolding tokens_match
any-single case_sensitive Any ts u us single h = absurd single
any-single case_sensitive One ts u us single h = suffix-first (takes case_sensitive One) (tokens_match case_sensitive ts) us u h
any-single case_sensitive (Literal literal) ts u us single h =
    suffix-first (takes case_sensitive (Literal literal)) (tokens_match case_sensitive ts) us u h

-- at the end of a text only Any is left
pub all_any : (case_sensitive : Bool) (ts : List Token) → list_all is_any ts ≡ tokens_match case_sensitive ts []
unfolding tokens_match some_suffix
all_any case_sensitive [] = refl
all_any case_sensitive (Any ∷ ts) = all_any case_sensitive ts
all_any case_sensitive (One ∷ ts) = refl
all_any case_sensitive (Literal literal ∷ ts) = refl

-- Any alone matches all units
pub any_last : (case_sensitive : Bool) (us : List TextUnit) → tokens_match case_sensitive (Any ∷ []) us ≡ true
unfolding tokens_match some_suffix
any_last case_sensitive [] = refl
any_last case_sensitive (u ∷ us) = or_right (tokens_match case_sensitive [] (u ∷ us)) _ (any_last case_sensitive us)

-- a token that takes the first unit leaves the rest to the rest
pub single-takes : (case_sensitive : Bool) (t : Token) (ts : List Token) (u : TextUnit) (us : List TextUnit) → IsSingle t → takes case_sensitive t u ≡ true → tokens_match case_sensitive (t ∷ ts) (u ∷ us) ≡ tokens_match case_sensitive ts us
single-takes case_sensitive t ts u us single h =
    tokens_match-single case_sensitive t ts (u ∷ us) single ∙ ap (λ (b : Bool). b && tokens_match case_sensitive ts us) h

-- a token that does not take the first unit matches nothing
pub single-fails : (case_sensitive : Bool) (t : Token) (ts : List Token) (u : TextUnit) (us : List TextUnit) → IsSingle t → takes case_sensitive t u ≡ false → tokens_match case_sensitive (t ∷ ts) (u ∷ us) ≡ false
single-fails case_sensitive t ts u us single h =
    tokens_match-single case_sensitive t ts (u ∷ us) single ∙ ap (λ (b : Bool). b && tokens_match case_sensitive ts us) h

-- two tests that are true together are equal
pub same_test : (a b : Bool) → (a ≡ true → b ≡ true) → (b ≡ true → a ≡ true) → a ≡ b
same_test true b to back = sym (to refl)
same_test false true to back = back refl
same_test false false to back = refl

-- The answer for the whole text, where the walk has come to the tokens `ts` and the units `us`, and where its last Any
-- stands before the tokens `after` and can still take from the units `left`.
pub record Resumes (whole case_sensitive : Bool) (after : List Token) (left : List TextUnit) (ts : List Token) (us : List TextUnit) : Type 0 where
  -- the last Any, with all that it can take, decides
  pub again : whole ≡ tokens_match case_sensitive (Any ∷ after) left
  -- so far each token has taken its unit
  pub here : tokens_match case_sensitive after left ≡ tokens_match case_sensitive ts us
  -- whatever the last Any takes, what is left then is left here too
  pub later : whole ≡ true → tokens_match case_sensitive (Any ∷ ts) us ≡ true

module _ (whole case_sensitive : Bool) where
  -- the walk begins anew behind an Any that decides
  pub resumes_at : (ts : List Token) (us : List TextUnit) → whole ≡ tokens_match case_sensitive (Any ∷ ts) us → Resumes whole case_sensitive ts us ts us
  resumes_at ts us h = record { again = h; here = refl; later = λ true_here. sym h ∙ true_here }

  -- where the tokens match here, they match the whole text
  whole-here : (after : List Token) (left : List TextUnit) (ts : List Token) (us : List TextUnit) → Resumes whole case_sensitive after left ts us → tokens_match case_sensitive ts us ≡ true → whole ≡ true
  whole-here after left ts us r h = r.again ∙ any_itself case_sensitive after left (r.here ∙ h)

  -- a later Any decides in place of the earlier one
  any_decides : (after : List Token) (left : List TextUnit) (ts : List Token) (us : List TextUnit) → Resumes whole case_sensitive after left (Any ∷ ts) us → whole ≡ tokens_match case_sensitive (Any ∷ ts) us
  any_decides after left ts us r =
      same_test whole _ (λ h. any-any case_sensitive ts us (r.later h)) (whole-here after left (Any ∷ ts) us r)

  -- a token takes a unit
  resumes-takes : (after : List Token) (left : List TextUnit) (t : Token) (ts : List Token) (u : TextUnit) (us : List TextUnit) → IsSingle t → takes case_sensitive t u ≡ true → Resumes whole case_sensitive after left (t ∷ ts) (u ∷ us) → Resumes whole case_sensitive after left ts us
  resumes-takes after left t ts u us single h r = record {
    again = r.again;
    here = r.here ∙ single-takes case_sensitive t ts u us single h;
    later = λ true_here. any-single case_sensitive t ts u us single (r.later true_here);
  }

  -- the tokens match nothing here, so the last Any takes one more unit
  resumes-fails : (after : List Token) (v : TextUnit) (vs : List TextUnit) (ts : List Token) (us : List TextUnit) → tokens_match case_sensitive ts us ≡ false → Resumes whole case_sensitive after (v ∷ vs) ts us → Resumes whole case_sensitive after vs after vs
  resumes-fails after v vs ts us h r =
      resumes_at after vs (r.again ∙ any-cons case_sensitive after v vs ∙ ap (λ (b : Bool). b || tokens_match case_sensitive (Any ∷ after) vs) (r.here ∙ h))

  -- at the end of the text
  resumes-ends : (after : List Token) (left : List TextUnit) (ts : List Token) → Resumes whole case_sensitive after left ts [] → tokens_match case_sensitive ts [] ≡ whole
  resumes-ends after left ts r =
      same_test _ whole (whole-here after left ts [] r) (λ h. sym (any-nil case_sensitive ts) ∙ r.later h)

-- The same by places in the pattern and in the text; before the first Any the tokens here decide.
abbrev pub Stands : Bool → Bool → List Token → List ℕ → ℕ → ℕ → Option Retry → Type 0
Stands whole case_sensitive tokens text next at None =
    whole ≡ tokens_match case_sensitive (drop next tokens) (units (drop at text))
Stands whole case_sensitive tokens text next at (Some last) =
    Resumes whole case_sensitive (drop last.next tokens) (units (drop last.at text)) (drop next tokens) (units (drop at text))

-- the last Any stands before the place of the walk
abbrev pub IsBehind : ℕ → ℕ → Option Retry → Type 0
IsBehind next at None = Unit {0}
IsBehind next at (Some last) = (last.next ≤ next) × (last.at ≤ at)

-- the walk goes on, and the last Any stays where it is
pub behind_more : (next at later further : ℕ) (retry : Option Retry) → next ≤ later → at ≤ further → IsBehind next at retry → IsBehind later further retry
behind_more next at later further None n a h = tt
behind_more next at later further (Some last) n a h = (omega (arith, h.0), omega (arith, h.1))

-- how many tokens stand behind the last Any, and how many bytes it has not taken
abbrev pub left_over : ℕ → ℕ → Option Retry → ℕ
left_over tokens bytes None = tokens + bytes
left_over tokens bytes (Some last) = (tokens - last.next) + (bytes - last.at)

-- the rest of a list from an item on
drop_from : {A : Type 0} (xs : List A) (i : ℕ) (x : A) → slice_get xs i ≡ Some x → drop i xs ≡ x ∷ drop (i + 1) xs
drop_from {A = A} xs i x h =
    drop_more xs i x (slice_get_within xs i x h) ∙ ap (λ (y : A). y ∷ drop (i + 1) xs) (get_or_from_slice_get xs i x x h)

-- the first item of the rest of a list
slice_get-drop : {A : Type 0} (xs : List A) (i : ℕ) → slice_get (drop i xs) 0 ≡ slice_get xs i
slice_get-drop [] zero = refl
slice_get-drop [] (suc i) = refl
slice_get-drop (x ∷ xs) zero = refl
slice_get-drop (x ∷ xs) (suc i) = slice_get-drop xs i

-- which test leads to which step
if-remember : (b : Bool) → (if b then Take else Fail) ≡ Remember → ⊥
if-remember true h = cc
if-remember false h = cc

if-take : (b : Bool) → (if b then Take else Fail) ≡ Take → b ≡ true
if-take true h = refl
if-take false h = cc

if-fail : (b : Bool) → (if b then Take else Fail) ≡ Fail → b ≡ false
if-fail true h = cc
if-fail false h = refl

-- what each step says of the token
token-remember : (case_sensitive : Bool) (o : Option Token) (u : TextUnit) → step_of case_sensitive o u ≡ Remember → o ≡ Some Any
token-remember case_sensitive None u h = cc
token-remember case_sensitive (Some Any) u h = refl
token-remember case_sensitive (Some One) u h = absurd (if-remember _ h)
token-remember case_sensitive (Some (Literal literal)) u h = absurd (if-remember _ h)

token-take : (case_sensitive : Bool) (o : Option Token) (u : TextUnit) → step_of case_sensitive o u ≡ Take → (t : Token) × (o ≡ Some t) × IsSingle t × (takes case_sensitive t u ≡ true)
token-take case_sensitive None u h = cc
token-take case_sensitive (Some Any) u h = cc
token-take case_sensitive (Some One) u h = (One, refl, tt, if-take _ h)
token-take case_sensitive (Some (Literal literal)) u h = (Literal literal, refl, tt, if-take _ h)

-- where the step fails, the tokens match nothing
fails : (case_sensitive : Bool) (ts : List Token) (u : TextUnit) (us : List TextUnit) → step_of case_sensitive (slice_get ts 0) u ≡ Fail → tokens_match case_sensitive ts (u ∷ us) ≡ false
fails case_sensitive [] u us h = nothing-cons case_sensitive u us
fails case_sensitive (Any ∷ ts) u us h = cc
fails case_sensitive (One ∷ ts) u us h = single-fails case_sensitive One ts u us tt (if-fail _ h)
fails case_sensitive (Literal literal ∷ ts) u us h =
    single-fails case_sensitive (Literal literal) ts u us tt (if-fail _ h)

-- The steps of the walk, by places.
module _ (whole case_sensitive : Bool) (tokens : List Token) (text : List ℕ) where
  -- an Any is remembered
  pub remembers : (next at : ℕ) (retry : Option Retry) (u : TextUnit) → step_of case_sensitive (slice_get tokens next) u ≡ Remember → Stands whole case_sensitive tokens text next at retry → whole ≡ tokens_match case_sensitive (Any ∷ drop (next + 1) tokens) (units (drop at text))
  remembers next at None u step stands =
      rw (drop_from tokens next Any (token-remember case_sensitive _ u step)) at stands
  remembers next at (Some last) u step stands =
      let here = rw (drop_from tokens next Any (token-remember case_sensitive _ u step)) at stands in
      any_decides whole case_sensitive (drop last.next tokens) (units (drop last.at text)) (drop (next + 1) tokens) (units (drop at text)) here

  -- the last Any stands at the pattern's end
  pub ends_with_any : (next at : ℕ) → next ≡ length tokens → whole ≡ tokens_match case_sensitive (Any ∷ drop next tokens) (units (drop at text)) → true ≡ whole
  ends_with_any next at end h =
      let last = rw (drop_all next tokens (omega arith)) at h in
      sym (last ∙ any_last case_sensitive (units (drop at text)))

  -- a token takes a unit
  pub takes_unit : (next at after : ℕ) (retry : Option Retry) (u : TextUnit) → units (drop at text) ≡ u ∷ units (drop after text) → step_of case_sensitive (slice_get tokens next) u ≡ Take → Stands whole case_sensitive tokens text next at retry → Stands whole case_sensitive tokens text (next + 1) after retry
  takes_unit next at after None u first step stands =
      let token = token-take case_sensitive _ u step in
      let here = rw (drop_from tokens next token.0 token.1, first) at stands in
      here ∙ single-takes case_sensitive token.0 (drop (next + 1) tokens) u (units (drop after text)) token.2 token.3
  takes_unit next at after (Some last) u first step stands =
      let token = token-take case_sensitive _ u step in
      let here = rw (drop_from tokens next token.0 token.1, first) at stands in
      resumes-takes whole case_sensitive (drop last.next tokens) (units (drop last.at text)) token.0 (drop (next + 1) tokens) u (units (drop after text)) token.2 token.3 here

  -- a step that fails
  pub matches_nothing : (next at after : ℕ) (u : TextUnit) → units (drop at text) ≡ u ∷ units (drop after text) → step_of case_sensitive (slice_get tokens next) u ≡ Fail → tokens_match case_sensitive (drop next tokens) (units (drop at text)) ≡ false
  matches_nothing next at after u first step =
      rw first (fails case_sensitive (drop next tokens) u (units (drop after text)) (rw (slice_get-drop tokens next) step))

  -- the last Any takes one more unit
  pub goes_back : (next at after : ℕ) (last : Retry) (v : TextUnit) → units (drop last.at text) ≡ v ∷ units (drop after text) → tokens_match case_sensitive (drop next tokens) (units (drop at text)) ≡ false → Stands whole case_sensitive tokens text next at (Some last) → Resumes whole case_sensitive (drop last.next tokens) (units (drop after text)) (drop last.next tokens) (units (drop after text))
  goes_back next at after last v first nothing stands =
      let here = rw first at stands in
      resumes-fails whole case_sensitive (drop last.next tokens) v (units (drop after text)) (drop next tokens) (units (drop at text)) nothing here

  -- the text's end
  pub ends : (next at : ℕ) (retry : Option Retry) → length text ≤ at → Stands whole case_sensitive tokens text next at retry → list_all is_any (drop next tokens) ≡ whole
  ends next at None past stands =
      let here = rw (units-past text at past) at stands in
      all_any case_sensitive (drop next tokens) ∙ sym here
  ends next at (Some last) past stands =
      let here = rw (units-past text at past) at stands in
      all_any case_sensitive (drop next tokens) ∙ resumes-ends whole case_sensitive (drop last.next tokens) (units (drop last.at text)) (drop next tokens) here
