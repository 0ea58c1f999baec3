-- Outsides in memory.
use Rattle.std.proofs.Common.{◌≡◌, Bool, true, false, true≢false, ◌&&◌, List, [], ◌∷◌, ◌++◌, map, refl, sym, ◌∙◌, ap, subst, append-nil}
use Rattle.std.proofs.lemmas.List.{map-append}
use Rattle.std.specs.Prelude.{if◌then◌else◌}
use Rattle.doors.specs.MemoryOutside.{MemoryWorker, tells_at, told_if}
use Rattle.doors.specs.Outside.{Asked, DiaryGrows, Tellings}

-- what was kept where there was memory
pub kept_more : {A : Type 0} (xs ys more : List A) (ok kept : Bool) → ys ≡ (if ok then xs ++ more else xs) → kept ≡ ok → kept ≡ true → ys ≡ xs ++ more
kept_more xs ys more true kept is same kept_it = is
kept_more xs ys more false kept is same kept_it = absurd (true≢false (sym kept_it ∙ same))

pub back_more : (telling kept still : Bool) (calls : List Asked) (back back' : List MemoryWorker) (w : MemoryWorker) → still ≡ (telling && kept) → (kept ≡ true → back' ≡ back ++ w ∷ [])
    → DiaryGrows (told_if telling (record { calls = calls; back = map tells_at back })) (told_if still (record { calls = calls; back = map tells_at back' })) [] (tells_at w ∷ [])
back_more true true true calls back back' w is grows = (sym (append-nil calls), ap (map tells_at) (grows refl) ∙ map-append tells_at back (w ∷ []))
back_more true true false calls back back' w is grows = tt
back_more true false true calls back back' w is grows = absurd (true≢false is)
back_more true false false calls back back' w is grows = tt
back_more false kept true calls back back' w is grows = absurd (true≢false is)
back_more false kept false calls back back' w is grows = tt

pub calls_more : (telling noted still : Bool) (calls calls' : List Asked) (back : List Tellings) (asked : Asked) → still ≡ (telling && noted) → (noted ≡ true → calls' ≡ calls ++ asked ∷ [])
    → DiaryGrows (told_if telling (record { calls = calls; back = back })) (told_if still (record { calls = calls'; back = back })) (asked ∷ []) []
calls_more true true true calls calls' back asked is grows = (grows refl, sym (append-nil back))
calls_more true true false calls calls' back asked is grows = tt
calls_more true false true calls calls' back asked is grows = absurd (true≢false is)
calls_more true false false calls calls' back asked is grows = tt
calls_more false noted true calls calls' back asked is grows = absurd (true≢false is)
calls_more false noted false calls calls' back asked is grows = tt

pub calls_more_as : (telling noted still : Bool) (calls calls' : List Asked) (back : List Tellings) (asked other : Asked) → other ≡ asked → still ≡ (telling && noted) → (noted ≡ true → calls' ≡ calls ++ asked ∷ [])
    → DiaryGrows (told_if telling (record { calls = calls; back = back })) (told_if still (record { calls = calls'; back = back })) (other ∷ []) []
calls_more_as telling noted still calls calls' back asked other same is grows =
    subst (λ (a : Asked). DiaryGrows (told_if telling (record { calls = calls; back = back })) (told_if still (record { calls = calls'; back = back })) (a ∷ []) []) (sym same) (calls_more telling noted still calls calls' back asked is grows)
