-- What a round does, by its posts and polls.
use Rattle.std.proofs.Common.{◌≡◌, ◌⊎◌, ℕ, zero, suc, ◌+◌, ◌≤◌, Bool, true, false, true≢false, List, [], ◌∷◌, ◌++◌, map, inl, inr, MatchBool, None, Some, bytes_eq, refl, sym, ◌∙◌, ap, subst, arith, add-one, if◌then◌else◌}
use Rattle.std.proofs.lemmas.List.{append-nil}
use Rattle.std.proofs.lemmas.Slice.Eq.{bytes_eq-Decides}
use Rattle.std.specs.Option.{option_map}
use Rattle.std.specs.declared.option.Option.{Option}
use Rattle.cdni_base.specs.declared.provider.ProviderId.{ProviderId}
use Rattle.targets.specs.declared.target.Target.{Target}
use Rattle.trigger_cascade.specs.Cdn.{after_poll, after_post, AreWaiting, IsWaiting}
use Rattle.trigger_cascade.specs.Far.{is_final}
use Rattle.trigger_cascade.specs.Law.{polls_at, posts_due, posts_of, ArePolledOut, IsPolledOut}
use Rattle.trigger_cascade.specs.Passing.{is_named, started, Follows, IsLeft, Passes, Visit, Visits}
use Rattle.trigger_cascade.specs.declared.cdn.Cdn.{Cdn}
use Rattle.trigger_cascade.specs.declared.cdn.Standing.{Standing}
use Rattle.trigger_cascade.specs.declared.cdn.Standing.TheVariants as standing
use Rattle.trigger_cascade.specs.declared.far.Far.{Far}
use Rattle.trigger_cascade.specs.declared.far.Far.TheVariants.{Pending}
use Rattle.trigger_cascade.specs.declared.link.LinkCall.{LinkCall}
use Rattle.trigger_cascade.specs.declared.link.LinkCall.TheVariants.{Post, Poll}
use Rattle.trigger_cascade.specs.declared.link.Polled.{Polled}
use Rattle.trigger_cascade.specs.declared.link.Polled.TheVariants as polled
use Rattle.trigger_cascade.specs.declared.link.Posted.{Posted}
use Rattle.trigger_cascade.specs.declared.link.Posted.TheVariants as posted

posts-append : (made more : List LinkCall) → posts_of (made ++ more) ≡ posts_of made ++ posts_of more
posts-append [] more = refl
posts-append (Post to body answer ∷ made) more = ap (λ xs. (to, body) ∷ xs) (posts-append made more)
posts-append (Poll place answer ∷ made) more = posts-append made more

one_more : (same : Bool) (all some rest : ℕ) → all ≡ some + rest → (if same then 1 + all else all) ≡ (if same then 1 + some else some) + rest
one_more true all some rest sum = omega (arith, sum)
one_more false all some rest sum = sum

polls-append : (place : List ℕ) (made more : List LinkCall) → polls_at place (made ++ more) ≡ polls_at place made + polls_at place more
polls-append place [] more = omega arith
polls-append place (Post to body answer ∷ made) more = polls-append place made more
polls-append place (Poll other answer ∷ made) more =
    one_more (bytes_eq other place) (polls_at place (made ++ more)) (polls_at place made) (polls_at place more) (polls-append place made more)

-- the command is no longer to be posted
abbrev pub IsPast : Standing → Type 0
IsPast standing.Waiting = ⊥
IsPast standing.Skipped = Unit {0}
IsPast (standing.Took place last) = Unit {0}
IsPast (standing.Refused status) = Unit {0}
IsPast standing.Malformed = Unit {0}
IsPast standing.Unreadable = Unit {0}
IsPast standing.Fault = Unit {0}

abbrev pub ArePast : List Cdn → Type 0
ArePast [] = Unit {0}
ArePast (cdn ∷ cdns) = IsPast cdn.standing × ArePast cdns

-- the post that a CDN waits for
abbrev pub due_of : List ℕ → Target → Standing → List (Target × List ℕ)
due_of body to standing.Waiting = (to, body) ∷ []
due_of body to standing.Skipped = []
due_of body to (standing.Took place last) = []
due_of body to (standing.Refused status) = []
due_of body to standing.Malformed = []
due_of body to standing.Unreadable = []
due_of body to standing.Fault = []

abbrev pub all_due : List ℕ → List Cdn → List (Target × List ℕ)
all_due body [] = []
all_due body (cdn ∷ cdns) = due_of body cdn.to cdn.standing ++ all_due body cdns

-- what a visit left of a CDN: the posts that were made, and, where the CDN is still open, that it was open and polled or
-- waited
abbrev pub IsOpenAt : List ℕ → Standing → Type 0
IsOpenAt place old = (last : Far) × (old ≡ standing.Took place last) × (is_final last ≡ false)

abbrev pub WasOpen : ℕ → List LinkCall → Standing → Standing → Type 0
WasOpen n made old (standing.Took place last) = is_final last ≡ false → IsWaiting old ⊎ (IsOpenAt place old × (n ≤ polls_at place made))
WasOpen n made old standing.Waiting = Unit {0}
WasOpen n made old standing.Skipped = Unit {0}
WasOpen n made old (standing.Refused status) = Unit {0}
WasOpen n made old standing.Malformed = Unit {0}
WasOpen n made old standing.Unreadable = Unit {0}
WasOpen n made old standing.Fault = Unit {0}

pub record Visited (body : List ℕ) (to : Target) (old : Standing) (made : List LinkCall) (new : Standing) : Type 0 where
  pub posts : posts_of made ≡ due_of body to old
  pub past : IsPast new
  pub was_open : WasOpen 1 made old new

-- ---- one visit

module _ (body : List ℕ) (to : Target) where
  visit_waiting : (made : List LinkCall) (new : Standing) (answer : Posted) → made ≡ Post to body answer ∷ [] → Some new ≡ after_post answer → Visited body to standing.Waiting made new
  visit_waiting made new (posted.Created place) is end =
      let same : new ≡ standing.Took place Pending = cc in
      rw (is, same) (record { posts = refl; past = tt; was_open = λ still. inl tt })
  visit_waiting made new (posted.Refused status) is end = let same : new ≡ standing.Refused status = cc in rw (is, same) (record { posts = refl; past = tt; was_open = tt })
  visit_waiting made new posted.Malformed is end = let same : new ≡ standing.Malformed = cc in rw (is, same) (record { posts = refl; past = tt; was_open = tt })
  visit_waiting made new posted.Failed is end = let same : new ≡ standing.Fault = cc in rw (is, same) (record { posts = refl; past = tt; was_open = tt })
  visit_waiting made new posted.Memory is end = absurd (cc)

  visit_polled : (place : List ℕ) (last : Far) (made : List LinkCall) (new : Standing) (answer : Polled) → is_final last ≡ false → made ≡ Poll place answer ∷ []
      → Some new ≡ after_poll place answer → Visited body to (standing.Took place last) made new
  visit_polled place last made new (polled.Status far) going is end =
      let same : new ≡ standing.Took place far = cc in
      let itself = (bytes_eq-Decides place place).1 refl in
      rw (is, same) (record { posts = refl; past = tt; was_open = λ still. inr ((last, refl, going), rw itself (omega arith)) })
  visit_polled place last made new polled.Unreadable going is end = let same : new ≡ standing.Unreadable = cc in rw (is, same) (record { posts = refl; past = tt; was_open = tt })
  visit_polled place last made new polled.Failed going is end = let same : new ≡ standing.Fault = cc in rw (is, same) (record { posts = refl; past = tt; was_open = tt })
  visit_polled place last made new polled.Memory going is end = absurd (cc)

  visit_took : (final : Bool) (place : List ℕ) (last : Far) (made : List LinkCall) (new : Standing) → is_final last ≡ final
      → MatchBool final (IsLeft (standing.Took place last) made (Some new)) ((answer : Polled) × (made ≡ Poll place answer ∷ []) × (Some new ≡ after_poll place answer))
      → Visited body to (standing.Took place last) made new
  visit_took true place last made new is visit =
      let same : new ≡ standing.Took place last = cc in
      rw (visit.0, same) (record { posts = refl; past = tt; was_open = λ still. absurd (true≢false (sym is ∙ still)) })
  visit_took false place last made new is visit = visit_polled place last made new visit.0 is visit.1 visit.2

  left_is : (old : Standing) (made : List LinkCall) (new : Standing) → made ≡ [] → Some new ≡ Some old → IsPast old → due_of body to old ≡ [] → WasOpen 1 [] old old
      → Visited body to old made new
  left_is old made new is end past none was =
      let same : new ≡ old = cc in
      rw (is, same) (record { posts = sym none; past = past; was_open = was })

  pub visit_is : (old : Standing) (made : List LinkCall) (new : Standing) → Visit body to old made (Some new) → Visited body to old made new
  visit_is standing.Waiting made new visit = visit_waiting made new visit.0 visit.1 visit.2
  visit_is (standing.Took place last) made new visit = visit_took (is_final last) place last made new refl visit
  visit_is standing.Skipped made new visit = left_is standing.Skipped made new visit.0 visit.1 tt refl tt
  visit_is (standing.Refused status) made new visit = left_is (standing.Refused status) made new visit.0 visit.1 tt refl tt
  visit_is standing.Malformed made new visit = left_is standing.Malformed made new visit.0 visit.1 tt refl tt
  visit_is standing.Unreadable made new visit = left_is standing.Unreadable made new visit.0 visit.1 tt refl tt
  visit_is standing.Fault made new visit = left_is standing.Fault made new visit.0 visit.1 tt refl tt

-- ---- one round

abbrev pub EachOpen : ℕ → List LinkCall → List Cdn → List Cdn → Type 0
EachOpen n made [] [] = Unit {0}
EachOpen n made [] (y ∷ ys) = ⊥
EachOpen n made (x ∷ xs) [] = ⊥
EachOpen n made (x ∷ xs) (y ∷ ys) = WasOpen n made x.standing y.standing × EachOpen n made xs ys

pub record Round (body : List ℕ) (old : List Cdn) (made : List LinkCall) (new : List Cdn) : Type 0 where
  pub posts : posts_of made ≡ all_due body old
  pub past : ArePast new
  pub was_open : EachOpen 1 made old new

module _ (n : ℕ) (made more : List LinkCall) (grown : (place : List ℕ) → polls_at place made ≤ polls_at place more) where
  open_more : (old new : Standing) → WasOpen n made old new → WasOpen n more old new
  open_more old (standing.Took place last) was = λ still. elim (was still) [ inl waits ↦ inl waits | inr so ↦ inr (so.0, let g = grown place in omega (arith, so.1, g)) ]
  open_more old standing.Waiting was = tt
  open_more old standing.Skipped was = tt
  open_more old (standing.Refused status) was = tt
  open_more old standing.Malformed was = tt
  open_more old standing.Unreadable was = tt
  open_more old standing.Fault was = tt

  each_more : (old new : List Cdn) → EachOpen n made old new → EachOpen n more old new
  each_more [] [] each = tt
  each_more [] (y ∷ ys) each = absurd each
  each_more (x ∷ xs) [] each = absurd each
  each_more (x ∷ xs) (y ∷ ys) each = (open_more x.standing y.standing each.0, each_more xs ys each.1)

behind : (first rest : List LinkCall) (place : List ℕ) → polls_at place rest ≤ polls_at place (first ++ rest)
behind first rest place = let sum = polls-append place first rest in omega (arith, sum)

before : (first rest : List LinkCall) (place : List ℕ) → polls_at place first ≤ polls_at place (first ++ rest)
before first rest place = let sum = polls-append place first rest in omega (arith, sum)

round_more : (body : List ℕ) (cdn : Cdn) (cdns others : List Cdn) (first rest : List LinkCall) (standing : Standing) → Visited body cdn.to cdn.standing first standing
    → Round body cdns rest others → Round body (cdn ∷ cdns) (first ++ rest) (record cdn { standing = standing } ∷ others)
round_more body cdn cdns others first rest standing one round = record {
  posts = posts-append first rest ∙ ap (λ xs. xs ++ posts_of rest) one.posts ∙ ap (λ xs. due_of body cdn.to cdn.standing ++ xs) round.posts;
  past = (one.past, round.past);
  was_open = (
    open_more 1 first (first ++ rest) (before first rest) cdn.standing standing one.was_open,
    each_more 1 rest (first ++ rest) (behind first rest) cdns others round.was_open,
  );
}

module _ (body : List ℕ) (cdn : Cdn) (cdns : List Cdn) (first rest : List LinkCall) (new : List Cdn) (round_of : (others : List Cdn) → Visits body cdns rest (Some others) → Round body cdns rest others) where
  round_with : (left : Standing) (others : Option (List Cdn)) → Visit body cdn.to cdn.standing first (Some left) → Visits body cdns rest others
      → Some new ≡ option_map (λ xs. record cdn { standing = left } ∷ xs) others → Round body (cdn ∷ cdns) (first ++ rest) new
  round_with left None visit visits end = absurd (cc)
  round_with left (Some others) visit visits end =
      let same : new ≡ record cdn { standing = left } ∷ others = cc in
      rw same (round_more body cdn cdns others first rest left (visit_is body cdn.to cdn.standing first left visit) (round_of others visits))

  round_by : (left : Option Standing) → Visit body cdn.to cdn.standing first left
      → Follows (λ left rest end. (others : Option (List Cdn)) × Visits body cdns rest others × (end ≡ option_map (λ xs. record cdn { standing = left } ∷ xs) others)) left rest (Some new)
      → Round body (cdn ∷ cdns) (first ++ rest) new
  round_by None visit follows = absurd (cc)
  round_by (Some left) visit follows = round_with left follows.0 visit follows.1 follows.2

round_is : (body : List ℕ) (cdns : List Cdn) (made : List LinkCall) (new : List Cdn) → Visits body cdns made (Some new) → Round body cdns made new
round_is body [] made new visits =
    let none : new ≡ [] = cc in
    rw (visits.0, none) (record { posts = refl; past = tt; was_open = tt })
round_is body (cdn ∷ cdns) made new visits = subst (λ (xs : List LinkCall). Round body (cdn ∷ cdns) xs new) (sym visits.3)
    (round_by body cdn cdns visits.0 visits.1 new (λ others rest. round_is body cdns visits.1 others rest) visits.2 visits.4 visits.5)

-- ---- all rounds

past_due : (body : List ℕ) (to : Target) (old : Standing) → IsPast old → due_of body to old ≡ []
past_due body to standing.Waiting past = absurd past
past_due body to standing.Skipped past = refl
past_due body to (standing.Took place last) past = refl
past_due body to (standing.Refused status) past = refl
past_due body to standing.Malformed past = refl
past_due body to standing.Unreadable past = refl
past_due body to standing.Fault past = refl

none_due : (body : List ℕ) (cdns : List Cdn) → ArePast cdns → all_due body cdns ≡ []
none_due body [] past = refl
none_due body (cdn ∷ cdns) past = ap (λ xs. xs ++ all_due body cdns) (past_due body cdn.to cdn.standing past.0) ∙ none_due body cdns past.1

waits_past : (old : Standing) → IsWaiting old → IsPast old → ⊥
waits_past standing.Waiting waits past = past
waits_past standing.Skipped waits past = waits
waits_past (standing.Took place last) waits past = waits
waits_past (standing.Refused status) waits past = waits
waits_past standing.Malformed waits past = waits
waits_past standing.Unreadable waits past = waits
waits_past standing.Fault waits past = waits

-- what two stretches of calls left open
module _ (n : ℕ) (first rest : List LinkCall) where
  open_at : (place : List ℕ) (old between : Standing) → IsPast old → IsOpenAt place between → WasOpen 1 first old between → n ≤ polls_at place rest
      → IsOpenAt place old × (suc n ≤ polls_at place (first ++ rest))
  open_at place old between past at was few =
      let so = subst (λ (s : Standing). WasOpen 1 first old s) at.1 was at.2 in
      let sum = polls-append place first rest in
      elim so [ inl waits ↦ absurd (waits_past old waits past) | inr one ↦ (one.0, let many = one.1 in omega (arith, many, few, sum)) ]

  open_twice : (old between new : Standing) → IsPast old → IsPast between → WasOpen 1 first old between → WasOpen n rest between new → WasOpen (suc n) (first ++ rest) old new
  open_twice old between (standing.Took place last) past later was later_was =
      λ still. elim (later_was still) [ inl waits ↦ absurd (waits_past between waits later) | inr so ↦ inr (open_at place old between past so.0 was so.1) ]
  open_twice old between standing.Waiting past later was later_was = tt
  open_twice old between standing.Skipped past later was later_was = tt
  open_twice old between (standing.Refused status) past later was later_was = tt
  open_twice old between standing.Malformed past later was later_was = tt
  open_twice old between standing.Unreadable past later was later_was = tt
  open_twice old between standing.Fault past later was later_was = tt

  each_twice : (old between new : List Cdn) → ArePast old → ArePast between → EachOpen 1 first old between → EachOpen n rest between new → EachOpen (suc n) (first ++ rest) old new
  each_twice [] [] [] past later was later_was = tt
  each_twice [] [] (z ∷ zs) past later was later_was = absurd later_was
  each_twice [] (y ∷ ys) new past later was later_was = absurd was
  each_twice (x ∷ xs) [] new past later was later_was = absurd was
  each_twice (x ∷ xs) (y ∷ ys) [] past later was later_was = absurd later_was
  each_twice (x ∷ xs) (y ∷ ys) (z ∷ zs) past later was later_was =
      (open_twice x.standing y.standing z.standing past.0 later.0 was.0 later_was.0, each_twice xs ys zs past.1 later.1 was.1 later_was.1)

open_still : (old : Standing) → WasOpen 0 [] old old
open_still (standing.Took place last) = λ still. inr ((last, refl, still), omega arith)
open_still standing.Waiting = tt
open_still standing.Skipped = tt
open_still (standing.Refused status) = tt
open_still standing.Malformed = tt
open_still standing.Unreadable = tt
open_still standing.Fault = tt

each_still : (cdns : List Cdn) → EachOpen 0 [] cdns cdns
each_still [] = tt
each_still (cdn ∷ cdns) = (open_still cdn.standing, each_still cdns)

pub record RoundsMade (n : ℕ) (old : List Cdn) (made : List LinkCall) (new : List Cdn) : Type 0 where
  pub posts : posts_of made ≡ []
  pub past : ArePast new
  pub was_open : EachOpen n made old new

rounds_by : (body : List ℕ) (n : ℕ) (cdns : List Cdn) (first rest : List LinkCall) (last : List Cdn) → ArePast cdns
    → ((middle : List Cdn) → ArePast middle → Passes body n middle rest (Some last) → RoundsMade n middle rest last)
    → (middle : Option (List Cdn)) → Visits body cdns first middle → Follows (Passes body n) middle rest (Some last) → RoundsMade (suc n) cdns (first ++ rest) last
rounds_by body n cdns first rest last past others None visits follows = absurd (cc)
rounds_by body n cdns first rest last past others (Some middle) visits follows =
    let one = round_is body cdns first middle visits in
    let more = others middle one.past follows in
    record {
      posts = posts-append first rest ∙ ap (λ xs. xs ++ posts_of rest) (one.posts ∙ none_due body cdns past) ∙ more.posts;
      past = more.past;
      was_open = each_twice n first rest cdns middle last past one.past one.was_open more.was_open;
    }

rounds_are : (body : List ℕ) (n : ℕ) (cdns : List Cdn) (made : List LinkCall) (last : List Cdn) → ArePast cdns → Passes body n cdns made (Some last) → RoundsMade n cdns made last
rounds_are body zero cdns made last past passes =
    let same : last ≡ cdns = cc in
    rw (passes.0, same) (record { posts = refl; past = past; was_open = each_still cdns })
rounds_are body (suc n) cdns made last past passes =
    subst (λ (xs : List LinkCall). RoundsMade (suc n) cdns xs last) (sym passes.3)
    (rounds_by body n cdns passes.0 passes.1 last past (λ middle later more. rounds_are body n middle passes.1 last later more) passes.2 passes.4 passes.5)

-- ---- the laws

waiting_due : (body : List ℕ) (to : Target) (old : Standing) → IsWaiting old → due_of body to old ≡ (to, body) ∷ []
waiting_due body to standing.Waiting waits = refl
waiting_due body to standing.Skipped waits = absurd waits
waiting_due body to (standing.Took place last) waits = absurd waits
waiting_due body to (standing.Refused status) waits = absurd waits
waiting_due body to standing.Malformed waits = absurd waits
waiting_due body to standing.Unreadable waits = absurd waits
waiting_due body to standing.Fault waits = absurd waits

due_by : (body : List ℕ) (cdn : Cdn) (others due : List (Target × List ℕ)) → IsWaiting cdn.standing → others ≡ due → (named : Bool)
    → due_of body (if named then record cdn { standing = standing.Skipped } else cdn).to (if named then record cdn { standing = standing.Skipped } else cdn).standing ++ others
    ≡ (if named then due else (cdn.to, body) ∷ due)
due_by body cdn others due waits is true = is
due_by body cdn others due waits is false = ap (λ xs. xs ++ others) (waiting_due body cdn.to cdn.standing waits) ∙ ap (λ xs. (cdn.to, body) ∷ xs) is

due_started : (path : List ProviderId) (body : List ℕ) (cdns : List Cdn) → AreWaiting cdns → all_due body (map (started path) cdns) ≡ posts_due path body cdns
due_started path body [] waits = refl
due_started path body (cdn ∷ cdns) waits =
    due_by body cdn (all_due body (map (started path) cdns)) (posts_due path body cdns) waits.0 (due_started path body cdns waits.1) (is_named path cdn.id)

polled_one : (n : ℕ) (rest made : List LinkCall) (grown : (place : List ℕ) → polls_at place rest ≤ polls_at place made) (old new : Standing)
    → IsPast old → IsPast new → WasOpen n rest old new → IsPolledOut n made new
polled_one n rest made grown old (standing.Took place last) past later was =
    λ still. elim (was still) [ inl waits ↦ absurd (waits_past old waits past) | inr so ↦ let g = grown place in let many = so.1 in omega (arith, many, g) ]
polled_one n rest made grown old standing.Waiting past later was = later
polled_one n rest made grown old standing.Skipped past later was = tt
polled_one n rest made grown old (standing.Refused status) past later was = tt
polled_one n rest made grown old standing.Malformed past later was = tt
polled_one n rest made grown old standing.Unreadable past later was = tt
polled_one n rest made grown old standing.Fault past later was = tt

polled_out : (n : ℕ) (rest made : List LinkCall) (grown : (place : List ℕ) → polls_at place rest ≤ polls_at place made) (old new : List Cdn)
    → ArePast old → ArePast new → EachOpen n rest old new → ArePolledOut n made new
polled_out n rest made grown [] [] past later each = tt
polled_out n rest made grown [] (y ∷ ys) past later each = absurd each
polled_out n rest made grown (x ∷ xs) [] past later each = absurd each
polled_out n rest made grown (x ∷ xs) (y ∷ ys) past later each =
    (polled_one n rest made grown x.standing y.standing past.0 later.0 each.0, polled_out n rest made grown xs ys past.1 later.1 each.1)

module _ (path : List ProviderId) (body : List ℕ) (n : ℕ) (cdns : List Cdn) (waits : AreWaiting cdns) (made : List LinkCall) (last : List Cdn) where
  by_first : {A : Type 0} → ((first rest : List LinkCall) (middle : List Cdn) → made ≡ first ++ rest → Round body (map (started path) cdns) first middle → RoundsMade n middle rest last → A)
      → Passes body (suc n) (map (started path) cdns) made (Some last) → A
  by_first {A = A} use_them passes = by_middle passes.2 passes.4 passes.5 where
    by_middle : (middle : Option (List Cdn)) → Visits body (map (started path) cdns) passes.0 middle → Follows (Passes body n) middle passes.1 (Some last) → A
    by_middle None visits follows = absurd (cc)
    by_middle (Some middle) visits follows =
        let one = round_is body (map (started path) cdns) passes.0 middle visits in
        use_them passes.0 passes.1 middle passes.3 one (rounds_are body n middle passes.1 last one.past follows)

  pub posted_once : Passes body (n + 1) (map (started path) cdns) made (Some last) → posts_of made ≡ posts_due path body cdns
  posted_once passes = by_first (λ first rest middle is one others.
      ap posts_of is ∙ posts-append first rest ∙ ap (λ xs. posts_of first ++ xs) others.posts ∙ append-nil (posts_of first) ∙ one.posts ∙ due_started path body cdns waits)
      (subst (λ (k : ℕ). Passes body k (map (started path) cdns) made (Some last)) (add-one n) passes)

  pub open_polled : Passes body (n + 1) (map (started path) cdns) made (Some last) → ArePolledOut n made last
  open_polled passes = by_first (λ first rest middle is one others.
      subst (λ (xs : List LinkCall). ArePolledOut n xs last) (sym is) (polled_out n rest (first ++ rest) (behind first rest) middle last one.past others.past others.was_open))
      (subst (λ (k : ℕ). Passes body k (map (started path) cdns) made (Some last)) (add-one n) passes)
