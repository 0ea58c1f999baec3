-- The hiring of workers.
use Rattle.std.proofs.Common.{◌≡◌, ℕ, zero, suc, ◌+◌, ◌-◌, ◌^◌, ◌≤◌, min, true, List, [], ◌∷◌, ◌++◌, All, length, map, refl, sym, ◌∙◌, ap, subst, arith, append-nil, append_assoc, length-append, None, Some}
use Rattle.std.proofs.lemmas.List.{length-map, replicate_more}
use Rattle.std.proofs.lemmas.List.Elements.{All-head, All-tail}
use Rattle.std.specs.Prelude.{replicate}
use Rattle.std.specs.declared.option.Option.{Option}
use Rattle.atomic_table.specs.Seated.{TableId}
use Rattle.doors.specs.Outside.{Asked, Diary, DiaryGrows, Hired, Tellings}
use Rattle.history.specs.declared.call.Call.{Call}
use Rattle.turn_cell.specs.Cell.{SitsAt, number_of, numbers_of, seen_of}
use Rattle.turn_cell.specs.History.{numbers_from}
use Rattle.turn_cell.specs.declared.pass.Pass.{Pass}
use Rattle.workers.specs.Crew.{GaveBack}
use Rattle.workers.specs.Hiring.{HiredOne, IsNewPass, NewFrom}
use Rattle.workers.specs.Job.{IsReady, Post, ReadyFrom}

-- ---- the passes of a new cell

pub new_from : (table : TableId) (count number many : ℕ) (passes : List (Pass Call)) → map number_of passes ≡ numbers_from number many → All (λ pass. SitsAt table count pass) passes → All (λ pass. numbers_of pass ≡ number_of pass ∷ []) passes
    → All (λ pass. seen_of pass ≡ []) passes → NewFrom table count number passes
new_from table count number many [] numbered sit own unseen = tt
new_from table count number zero (pass ∷ passes) numbered sit own unseen = absurd (omega (arith, ap length numbered))
new_from table count number (suc many) (pass ∷ passes) numbered sit own unseen =
    let is : number_of pass ≡ number = cc in
    let more : map number_of passes ≡ numbers_from (number + 1) many = cc in (
      record {
        sits = All-head (λ (p : Pass Call). SitsAt table count p) pass passes sit;
        numbered = is;
        own = All-head (λ (p : Pass Call). numbers_of p ≡ number_of p ∷ []) pass passes own ∙ ap (λ n. n ∷ []) is;
        unseen = All-head (λ (p : Pass Call). seen_of p ≡ []) pass passes unseen;
      },
      new_from table count (number + 1) many passes more (All-tail (λ (p : Pass Call). SitsAt table count p) pass passes sit) (All-tail (λ (p : Pass Call). numbers_of p ≡ number_of p ∷ []) pass passes own)
          (All-tail (λ (p : Pass Call). seen_of p ≡ []) pass passes unseen),
    )

-- ---- one more worker

ready_more : (table : TableId) (passes number : ℕ) (posts : List Post) (post : Post) → ReadyFrom table passes number posts → IsReady table passes (number + length posts) post → ReadyFrom table passes number (posts ++ post ∷ [])
ready_more table passes number [] post ready one = (subst (λ n. IsReady table passes n post) (let e : number + 0 ≡ number = omega arith in e) one, tt)
ready_more table passes number (first ∷ posts) post ready one =
    (ready.0, ready_more table passes (number + 1) posts post ready.1 (subst (λ n. IsReady table passes n post) (let e : number + length (first ∷ posts) ≡ (number + 1) + length posts = omega arith in e) one))

pub ready_then : (table : TableId) (passes : ℕ) (posts posts' : List Post) → ReadyFrom table passes 0 posts → HiredOne table passes posts posts' → ReadyFrom table passes 0 posts'
ready_then table passes posts posts' ready h = subst (ReadyFrom table passes 0) (sym h.more) (ready_more table passes 0 posts h.post ready (subst (λ n. IsReady table passes n h.post) (let e : length posts ≡ 0 + length posts = omega arith in e) h.ready))

-- ---- what the outside tells

pub diary_then : (a b c : Option Diary) (calls more : List Asked) (back others : List Tellings) → DiaryGrows a b calls back → DiaryGrows b c more others → DiaryGrows a c (calls ++ more) (back ++ others)
diary_then None None None calls more back others p q = tt
diary_then None None (Some c) calls more back others p q = elim q [ ]
diary_then None (Some b) c calls more back others p q = elim p [ ]
diary_then (Some a) None None calls more back others p q = tt
diary_then (Some a) None (Some c) calls more back others p q = elim q [ ]
diary_then (Some a) (Some b) None calls more back others p q = tt
diary_then (Some a) (Some b) (Some c) calls more back others p q = (
  q.0 ∙ ap (λ l. l ++ more) p.0 ∙ append_assoc a.calls calls more,
  q.1 ∙ ap (λ l. l ++ others) p.1 ∙ append_assoc a.back back others,
)

pub diary_same : (a : Option Diary) → DiaryGrows a a [] []
diary_same None = tt
diary_same (Some a) = (sym (append-nil a.calls), sym (append-nil a.back))

-- so many were hired, and one more
pub hired_more : (a b c : Option Diary) (many many' : ℕ) → many' ≡ many + 1 → DiaryGrows a b (replicate many (Hired true)) [] → DiaryGrows b c (Hired true ∷ []) [] → DiaryGrows a c (replicate many' (Hired true)) []
hired_more a b c many many' is p q =
    subst (λ l. DiaryGrows a c l []) (replicate_more many (Hired true) ∙ ap (λ n. replicate n (Hired true)) (sym is)) (diary_then a b c (replicate many (Hired true)) (Hired true ∷ []) [] [] p q)

-- ---- workers that are given back

pub gave_more : (a b c many many' : ℕ) → many' ≡ many + 1 → GaveBack a b many → c ≡ min (b + 1) (2 ^ 64 - 1) → GaveBack a c many'
gave_more a b c many many' is p q = omega (arith, is, p, q)

-- so many of these workers were given back, and these are left
pub record GivenBack (all left : List Tellings) (old new : Option Diary) (returned returned' : ℕ) : Type 0 where
  pub before : List Tellings
  pub parts : all ≡ before ++ left
  pub diary : DiaryGrows old new [] before
  pub gave_back : GaveBack returned returned' (length before)

pub none_given : (all : List Tellings) (diary : Option Diary) (returned : ℕ) → GivenBack all all diary diary returned returned
none_given all diary returned = record {
  before = [];
  parts = refl;
  diary = diary_same diary;
  gave_back = ap (λ (n : ℕ). min n (2 ^ 64 - 1)) (let e : returned ≡ returned + 0 = omega arith in e);
}

pub one_given : (all rest : List Tellings) (tells : Tellings) (d0 d1 d2 : Option Diary) (r0 r1 r2 : ℕ) → GivenBack all (tells ∷ rest) d0 d1 r0 r1 → DiaryGrows d1 d2 [] (tells ∷ []) → r2 ≡ min (r1 + 1) (2 ^ 64 - 1) → GivenBack all rest d0 d2 r0 r2
one_given all rest tells d0 d1 d2 r0 r1 r2 so diary returned = record {
  before = so.before ++ tells ∷ [];
  parts = so.parts ∙ sym (append_assoc so.before (tells ∷ []) rest);
  diary = diary_then d0 d1 d2 [] [] so.before (tells ∷ []) so.diary diary;
  gave_back = gave_more r0 r1 r2 (length so.before) (length (so.before ++ tells ∷ [])) (length-append so.before (tells ∷ [])) so.gave_back returned;
}

pub all_given : (all left : List Tellings) (old new : Option Diary) (returned returned' : ℕ) → left ≡ [] → GivenBack all left old new returned returned' → DiaryGrows old new [] all × GaveBack returned returned' (length all)
all_given all left old new returned returned' none so =
    let whole : all ≡ so.before = so.parts ∙ (ap (λ l. so.before ++ l) none ∙ append-nil so.before) in
    (subst (λ (l : List Tellings). DiaryGrows old new [] l) (sym whole) so.diary, subst (λ (l : List Tellings). GaveBack returned returned' (length l)) (sym whole) so.gave_back)

-- workers were hired for so many passes, and these passes are left
pub record HiredSo (table : TableId) (passes all : ℕ) (posts : List Post) (rest : List (Pass Call)) (old new : Option Diary) : Type 0 where
  pub ready : ReadyFrom table passes 0 posts
  pub left : NewFrom table passes (length posts) rest
  pub count : length posts + length rest ≡ all
  pub diary : DiaryGrows old new (replicate (length posts) (Hired true)) []

pub none_hired : (table : TableId) (passes : ℕ) (rest : List (Pass Call)) (posts : List Post) (diary : Option Diary) → posts ≡ [] → NewFrom table passes 0 rest → HiredSo table passes (length rest) posts rest diary diary
none_hired table passes rest posts diary none left = subst (λ (l : List Post). HiredSo table passes (length rest) l rest diary diary) (sym none) (record {
  ready = tt;
  left = left;
  count = omega arith;
  diary = diary_same diary;
})

pub one_hired : (table : TableId) (passes all : ℕ) (posts posts' : List Post) (pass : Pass Call) (rest : List (Pass Call)) (d0 d1 d2 : Option Diary) → HiredSo table passes all posts (pass ∷ rest) d0 d1 → HiredOne table passes posts posts' → DiaryGrows d1 d2 (Hired true ∷ []) []
    → HiredSo table passes all posts' rest d0 d2
one_hired table passes all posts posts' pass rest d0 d1 d2 so one diary =
    let count : length posts' ≡ length posts + 1 = ap length one.more ∙ length-append posts (one.post ∷ []) in
    record {
      ready = ready_then table passes posts posts' so.ready one;
      left = subst (λ (n : ℕ). NewFrom table passes n rest) (sym count) so.left.1;
      count = omega (arith, so.count, count);
      diary = hired_more d0 d1 d2 (length posts) (length posts') count so.diary diary;
    }

-- ---- the loops over workers and passes

pub none_left : {X : Type 0} (n : ℕ) (items : List X) → n ≡ length items → n ≡ 0 → items ≡ []
none_left n [] is nought = refl
none_left n (x ∷ items) is nought = absurd (omega (arith, is, nought))

module _ {X : Type 0} (f : X → Tellings) (all items : List X) where
  pub given_init : (diary : Option Diary) (returned : ℕ) → items ≡ all → GivenBack (map f all) (map f items) diary diary returned returned
  given_init diary returned is = subst (λ (l : List X). GivenBack (map f all) (map f l) diary diary returned returned) (sym is) (none_given (map f all) diary returned)

  pub given_next : (rest : List X) (x : X) (d0 d1 d2 : Option Diary) (r0 r1 r2 : ℕ) → items ≡ x ∷ rest → GivenBack (map f all) (map f items) d0 d1 r0 r1 → DiaryGrows d1 d2 [] (f x ∷ []) → r2 ≡ min (r1 + 1) (2 ^ 64 - 1) → GivenBack (map f all) (map f rest) d0 d2 r0 r2
  given_next rest x d0 d1 d2 r0 r1 r2 is so diary returned = one_given (map f all) (map f rest) (f x) d0 d1 d2 r0 r1 r2 (subst (λ (l : List X). GivenBack (map f all) (map f l) d0 d1 r0 r1) is so) diary returned

  pub given_all : (n : ℕ) (d0 d1 : Option Diary) (r0 r1 : ℕ) → n ≡ length items → n ≡ 0 → GivenBack (map f all) (map f items) d0 d1 r0 r1 → DiaryGrows d0 d1 [] (map f all) × GaveBack r0 r1 (length all)
  given_all n d0 d1 r0 r1 is nought so =
      let whole = all_given (map f all) (map f items) d0 d1 r0 r1 (ap (map f) (none_left n items is nought)) so in
      (whole.0, subst (λ (k : ℕ). GaveBack r0 r1 k) (length-map all f) whole.1)

module _ {X : Type 0} (f : X → Post) (table : TableId) (passes : ℕ) where
  pub hired_init : (jobs : List X) (given items vec : List (Pass Call)) (diary : Option Diary) → jobs ≡ [] → items ≡ vec → vec ≡ given → NewFrom table passes 0 given → HiredSo table passes (length given) (map f jobs) items diary diary
  hired_init jobs given items vec diary none is same new =
      subst (λ (l : List (Pass Call)). HiredSo table passes (length given) (map f jobs) l diary diary) (sym (is ∙ same)) (none_hired table passes given (map f jobs) diary (ap (map f) none) new)

  pub next_pass : (jobs : List X) (items rest : List (Pass Call)) (pass : Pass Call) (all : ℕ) (d0 d1 : Option Diary) → items ≡ pass ∷ rest → HiredSo table passes all (map f jobs) items d0 d1 → IsNewPass table passes (length jobs) pass
  next_pass jobs items rest pass all d0 d1 is so =
      let left = subst (λ (l : List (Pass Call)). NewFrom table passes (length (map f jobs)) l) is so.left in
      subst (λ (n : ℕ). IsNewPass table passes n pass) (length-map jobs f) left.0

  pub hired_next : (jobs jobs' : List X) (items rest : List (Pass Call)) (pass : Pass Call) (all : ℕ) (d0 d1 d2 : Option Diary) → items ≡ pass ∷ rest → HiredSo table passes all (map f jobs) items d0 d1 → HiredOne table passes (map f jobs) (map f jobs') → DiaryGrows d1 d2 (Hired true ∷ []) []
      → HiredSo table passes all (map f jobs') rest d0 d2
  hired_next jobs jobs' items rest pass all d0 d1 d2 is so one diary = one_hired table passes all (map f jobs) (map f jobs') pass rest d0 d1 d2 (subst (λ (l : List (Pass Call)). HiredSo table passes all (map f jobs) l d0 d1) is so) one diary

  -- none is left
  pub hired_all : (jobs : List X) (items : List (Pass Call)) (n all : ℕ) (d0 d1 : Option Diary) → n ≡ length items → n ≡ 0 → HiredSo table passes all (map f jobs) items d0 d1 → (length jobs ≡ all) × DiaryGrows d0 d1 (replicate (length jobs) (Hired true)) []
  hired_all jobs items n all d0 d1 is nought so =
      let same = length-map jobs f in
      (omega (arith, so.count, same, is, nought), subst (λ (k : ℕ). DiaryGrows d0 d1 (replicate k (Hired true)) []) same so.diary)

  pub hired_fewer : (jobs : List X) (items : List (Pass Call)) (all : ℕ) (d0 d1 : Option Diary) → HiredSo table passes all (map f jobs) items d0 d1 → length jobs ≤ all
  hired_fewer jobs items all d0 d1 so = let same = length-map jobs f in omega (arith, so.count, same)

  pub hired_refused : (jobs : List X) (items : List (Pass Call)) (all : ℕ) (d0 d1 d2 : Option Diary) (more : List Asked) → HiredSo table passes all (map f jobs) items d0 d1 → DiaryGrows d1 d2 more [] → DiaryGrows d0 d2 (replicate (length jobs) (Hired true) ++ more) []
  hired_refused jobs items all d0 d1 d2 more so diary = subst (λ (k : ℕ). DiaryGrows d0 d2 (replicate k (Hired true) ++ more) []) (length-map jobs f) (diary_then d0 d1 d2 (replicate (length (map f jobs)) (Hired true)) more [] [] so.diary diary)
