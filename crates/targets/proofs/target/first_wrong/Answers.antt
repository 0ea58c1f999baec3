use Rattle.std.proofs.Common.{◌≡◌, ℕ, suc, ◌+◌, ◌-◌, ◌<◌, List, length, take, drop, get_or, true, refl, sym, ◌∙◌, ap, arith, add-one, drop-cons}
use Rattle.std.proofs.lemmas.List.{take_rest}
use Rattle.std.proofs.lemmas.Bool.{cond-true}
use Rattle.targets.specs.Target.{is_taken, first_wrong}
use Rattle.targets.proofs.target.first_wrong.Goals as goal

-- behind a byte that is taken, the first wrong byte is that of the rest
taken_on : (from at : ℕ) (text : List ℕ) → at < length text → is_taken (get_or text at 0) (take (length text - (at + 1)) (drop (at + 1) text)) ≡ true
    → first_wrong (from + (at + 1)) (drop (at + 1) text) ≡ first_wrong (from + at) (drop at text)
unfolding first_wrong
taken_on from at text below taken =
    let next : from + (at + 1) ≡ from + at + 1 = omega arith in
    let rest : take (length text - (at + 1)) (drop (at + 1) text) ≡ drop (suc at) text =
    take_rest text (at + 1) ∙ ap (λ (n : ℕ). drop n text) (add-one at) in
    let is : is_taken (get_or text at 0) (drop (suc at) text) ≡ true = ap (is_taken (get_or text at 0)) (sym rest) ∙ taken in
    ap (λ (n : ℕ). first_wrong n (drop (at + 1) text)) next ∙ ap (λ (n : ℕ). first_wrong (from + at + 1) (drop n text)) (add-one at)
    ∙ sym (ap (first_wrong (from + at)) (drop-cons text at 0 below) ∙ cond-true (is_taken (get_or text at 0) (drop (suc at) text)) (first_wrong (from + at + 1) (drop (suc at) text)) _ is)

pub bytes-preserved : goal.bytes-preserved
bytes-preserved c =
    taken_on c.args.from c.bytes.at c.args.text.now c.bytes-test.true (sym c.if-not-is_taken.ensures) ∙ c.bytes.invariant
