-- Each record that is read is accepted with the stamp; the first that is refused tells why not all of them fit.
use Rattle.std.proofs.Common.{◌≡◌, ◌∷◌, [], List, sym, ◌∙◌, ap, subst}
use Rattle.dspec_buffer.specs.Words.{Record, IsUpgraded, stamped, FillsUp}
use Rattle.dspec_buffer.proofs.Upgrades.{IsUpgrading, upgrading-next-accepted, upgrading-refused, upgrading-pushed, upgrading-end, fills-not-upgradable}
use Rattle.dspec_buffer.proofs.upgrading.upgrade.Goals as goal

pub push-requires : goal.push-requires
push-requires c =
    let Now : List Record → Type 0 = λ left. IsUpgrading c.args.old.now c.args.stamp c.args.text.now c.args.to.now.size c.loop-rec.to left in
    let h : Now (c.in-Some.rec ∷ c.next.new.self) = subst Now c.in-Some.ensures.steps c.loop-rec.invariant.upgrading in
    let same : c.in-Some-stamped.rec ≡ stamped c.args.stamp c.in-Some.rec =
    c.in-Some-stamped.ensures.holds ∙ (λ i. record { epid = c.epid.ensures i; stamp = c.args.stamp; values = c.values.ensures.values i }) in
    upgrading-next-accepted c.args.old.now c.args.stamp c.args.text.now c.args.to.now.size c.loop-rec.to c.in-Some.rec c.in-Some-stamped.rec c.next.new.self
    c.stamped-stamped.result c.ranges.stamp.fits h c.stamped-stamped.ensures same

pub returns-then-not-push-clause-fault : goal.returns-then-not-push-clause-fault
returns-then-not-push-clause-fault c =
    let Now : List Record → Type 0 = λ left. IsUpgrading c.args.old.now c.args.stamp c.args.text.now c.args.to.now.size c.loop-rec.to left in
    let h : Now (c.in-Some.rec ∷ c.next.new.self) = subst Now c.in-Some.ensures.steps c.loop-rec.invariant.upgrading in
    let same : c.in-Some-stamped.rec ≡ stamped c.args.stamp c.in-Some.rec =
    c.in-Some-stamped.ensures.holds ∙ (λ i. record { epid = c.epid.ensures i; stamp = c.args.stamp; values = c.values.ensures.values i }) in
    let full : FillsUp c.args.old.now c.args.stamp c.args.text.now c.args.to.now.size c.loop-rec.to.count =
    upgrading-refused c.args.old.now c.args.stamp c.args.text.now c.args.to.now.size c.loop-rec.to c.in-Some.rec c.in-Some-stamped.rec c.next.new.self
    c.stamped-stamped.result c.push.result h c.stamped-stamped.ensures same c.push.ensures.answer c.if-not-push.true in
    let unchanged : c.push.new.self ≡ c.loop-rec.to = c.if-not-push.ensures.refused in
    let Full : _ → Type 0 = λ n. FillsUp c.args.old.now c.args.stamp c.args.text.now c.args.to.now.size n in
    subst Full (sym (c.count-number.ensures ∙ ap (λ b. b.count) unchanged)) full

pub returns-then-not-push-clause-exactly : goal.returns-then-not-push-clause-exactly
returns-then-not-push-clause-exactly c = (
  λ e. absurd (cc),
  λ u. absurd (fills-not-upgradable c.args.old.now c.args.stamp c.args.text.now c.args.to.now.size c.count-number.result c.ranges.stamp.fits (returns-then-not-push-clause-fault c) u),
)

pub loop-rec-preserved : goal.loop-rec-preserved
loop-rec-preserved c =
    let Now : List Record → Type 0 = λ left. IsUpgrading c.args.old.now c.args.stamp c.args.text.now c.args.to.now.size c.loop-rec.to left in
    let h : Now (c.in-Some.rec ∷ c.next.new.self) = subst Now c.in-Some.ensures.steps c.loop-rec.invariant.upgrading in
    let same : c.in-Some-stamped.rec ≡ stamped c.args.stamp c.in-Some.rec =
    c.in-Some-stamped.ensures.holds ∙ (λ i. record { epid = c.epid.ensures i; stamp = c.args.stamp; values = c.values.ensures.values i }) in
    record {
      can_next = tt;
      is_finite = tt;
      upgrading = upgrading-pushed c.args.old.now c.args.stamp c.args.text.now c.args.to.now.size c.loop-rec.to c.push.new.self c.in-Some.rec c.in-Some-stamped.rec
          c.next.new.self c.stamped-stamped.result c.push.result h c.stamped-stamped.ensures same c.push.ensures.answer c.if-not-push.false c.if-not-push.ensures.kept c.push.ensures.size;
    }

pub returns-clause-upgraded : goal.returns-clause-upgraded
returns-clause-upgraded c =
    let Now : List Record → Type 0 = λ left. IsUpgrading c.args.old.now c.args.stamp c.args.text.now c.args.to.now.size c.loop-rec.to left in
    let h : Now [] = subst Now c.in-None.ensures.steps.0 c.loop-rec.invariant.upgrading in
    let Done : _ → Type 0 = λ n. IsUpgraded c.args.old.now c.args.stamp c.args.text.now c.loop-rec.to n in
    subst Done (sym c.count.ensures) (upgrading-end c.args.old.now c.args.stamp c.args.text.now c.args.to.now.size c.loop-rec.to h)
