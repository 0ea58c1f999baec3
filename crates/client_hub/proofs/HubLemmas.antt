-- What a worker is given of a message that was waited for.
use Rattle.std.proofs.Common.{◌≡◌, ℕ, ◌-◌, ◌<◌, Bool, true, false, ltb, refl, subst, List, ◌++◌, length, take, drop, sym, ◌∙◌, ap, arith}
use Rattle.std.proofs.Math.Seq.{take-append-add}
use Rattle.std.proofs.lemmas.Bool.{ltb-true, ltb-false}
use Rattle.std.proofs.lemmas.List.{take_all, take-append-drop, take-append-le}
use Rattle.client_hub.proofs.MessageLemmas.{follows_same}
use Rattle.client_hub.specs.Hub.{IsGivenOf, IsGivenWhole, IsGivenWith}
use Rattle.client_hub.specs.Message.{Follows}
use Rattle.client_hub.specs.declared.hub.Look.{Look}
use Rattle.client_hub.specs.declared.hub.Look.TheVariants as look
use Rattle.client_desk.specs.declared.parked.Parked.{Parked}

behind_front : (n : ℕ) (old more : List ℕ) (b : Bool) → ltb (length old) n ≡ b → Follows (take n old) (take n (old ++ more))
behind_front n old more false is = subst (Follows (take n old)) (sym (take-append-le n old more (ltb-false (length old) n is))) (follows_same (take n old))
behind_front n old more true is =
    let rest = n - length old in
    let less : length old < n = ltb-true (length old) n is in
    (take rest more, ap (λ k. take k (old ++ more)) (omega (arith, less)) ∙ take-append-add old more rest ∙ ap (λ l. l ++ take rest more) (sym (take_all n old (omega (arith, less)))))

front_follows : (n : ℕ) (old new : List ℕ) → Follows old new → Follows (take n old) (take n new)
front_follows n old new more = subst (λ l. Follows (take n old) (take n l)) (sym more.1) (behind_front n old more.0 (ltb (length old) n) refl)

pub gives_with : (parked later : Parked) (n : ℕ) (room : List ℕ) (given : Look) → later.stream ≡ parked.stream → later.ip ≡ parked.ip → later.token ≡ parked.token
    → Follows parked.got.items later.got.items → room ≡ take n later.got.items → IsGivenOf later (drop n later.got.items) given → IsGivenWith parked (take n parked.got.items) room given
gives_with parked later n room (look.Given taken) stream ip token more front is =
    let came = front_follows n parked.got.items later.got.items more in
    ((is.0.0 ∙ stream, is.0.1 ∙ ip, is.0.2 ∙ token), (came.0, front ∙ came.1))
gives_with parked later n room look.Nothing stream ip token more front is = absurd is
gives_with parked later n room look.Fault stream ip token more front is = is

pub gives_whole : (parked later : Parked) (n : ℕ) (room : List ℕ) (given : Look)
    → Follows parked.got.items later.got.items → room ≡ take n later.got.items → IsGivenOf later (drop n later.got.items) given → IsGivenWhole parked.got.items room given
gives_whole parked later n room (look.Given taken) more front is =
    (more.0, ap (λ l. l ++ taken.rest) front ∙ ap (λ l. take n later.got.items ++ l) is.1 ∙ take-append-drop n later.got.items ∙ more.1)
gives_whole parked later n room look.Nothing more front is = absurd is
gives_whole parked later n room look.Fault more front is = is
