-- What a link in memory gives and tells.
use Rattle.std.proofs.Common.{◌≡◌, ℕ, zero, suc, Bool, true, false, true≢false, List, [], ◌∷◌, ◌++◌, ◌&&◌, drop, refl, sym}
use Rattle.std.specs.Prelude.{Some, slice_get}
use Rattle.edge_base.specs.Clock.{Grows}
use Rattle.trigger_cascade.specs.MemoryLink.{next_poll, next_post, told_if}
use Rattle.trigger_cascade.specs.declared.link.LinkCall.{LinkCall}
use Rattle.trigger_cascade.specs.declared.link.Polled.{Polled}
use Rattle.trigger_cascade.specs.declared.link.Posted.{Posted}

-- the next answer is that at the place
pub post_is : (answers : List Posted) (place : ℕ) (answer : Posted) → slice_get answers place ≡ Some answer → next_post (drop place answers) ≡ answer
post_is [] place answer is = absurd (cc)
post_is (first ∷ answers) zero answer is = cc
post_is (first ∷ answers) (suc place) answer is = post_is answers place answer is

pub poll_is : (answers : List Polled) (place : ℕ) (answer : Polled) → slice_get answers place ≡ Some answer → next_poll (drop place answers) ≡ answer
poll_is [] place answer is = absurd (cc)
poll_is (first ∷ answers) zero answer is = cc
poll_is (first ∷ answers) (suc place) answer is = poll_is answers place answer is

-- what is told grows by the call, or nothing is told any more
pub told_more : (telling noted : Bool) (made later : List LinkCall) (call : LinkCall) → (noted ≡ true → later ≡ made ++ call ∷ [])
    → Grows (told_if telling made) (told_if (telling && noted) later) (call ∷ [])
told_more false noted made later call is = tt
told_more true false made later call is = tt
told_more true true made later call is = is refl
