use Rattle.std.proofs.Common.{◌+◌, ◌<◌, ◌≤◌, [], ◌∷◌, ◌++◌, length, map, sym, ap, subst, ◌∙◌, arith, rules, Ok}
use Rattle.std.specs.String.{string_bytes}
use Rattle.std.proofs.lemmas.List.{map-append}
use Rattle.decimal_json.specs.Value.{array, object, items_of, members_of, Member}
use Rattle.decimal_json.specs.inside.Scan.{first_item, first_key, knows, IsBehind, place_of, BreaksValue, BreaksInside, ReadsInside, ReadsValue}
use Rattle.decimal_json.specs.View.{view, pair_view}
use Rattle.decimal_json.proofs.Exits.{passed_on}
use Rattle.decimal_json.proofs.Views.{view-array, view-object, view-pair}
use Rattle.decimal_json.proofs.Keys.{knows_nothing}
use Rattle.decimal_json.proofs.Values.{HasItems, HasMembers, array_cut, array_empty, items_begin, array_breaks, array_closes, items_go_on, object_cut, object_empty, members_begin, member_read, object_breaks, object_closes, members_go_on, value_cut, too_deep, inside_read, inside_breaks, open_array, open_object}
use Rattle.decimal_json.proofs.value.+value.Goals as goal

pub array-returns-in_err-at-clause-fault : goal.array-returns-in_err-at-clause-fault
array-returns-in_err-at-clause-fault t c =
    passed_on c.from_residual.result c.in_err-at.field-0.0 (BreaksInside c.args.source.now c.args.start first_item c.args.room) c.from_residual.ensures.1
    (array_cut c.args.source.now c.args.start c.args.room c.in_err-at.field-0.0 c.in_err-at.ensures.fault)

pub array-returns-then-first-eq93-clause-read : goal.array-returns-then-first-eq93-clause-read
array-returns-then-first-eq93-clause-read t c =
    subst (λ vs. ReadsInside c.args.source.now c.args.start first_item (c.in_ok-at.at + 1) c.args.room (array (items_of vs))) (sym (ap (λ xs. map view xs) c.new-items.ensures.items))
    (array_empty c.args.source.now c.args.start c.in_ok-at.at c.in_ok-at.first c.args.room c.in_ok-at.ensures.found c.if-first-eq93.true)

pub array-loop-items-init : goal.array-loop-items-init
array-loop-items-init t c =
    subst (λ vs. HasItems c.args.source.now c.args.start c.in_ok-at.at c.args.room vs) (sym (ap (λ xs. map view xs) c.new-items.ensures.items))
    (items_begin c.args.source.now c.args.start c.in_ok-at.at c.in_ok-at.first c.args.room c.in_ok-at.ensures.found c.if-first-eq93.false c.in_ok-at.ensures.within.0)

pub array-returns-in_err-item-clause-fault : goal.array-returns-in_err-item-clause-fault
array-returns-in_err-item-clause-fault t c = grind (arith, t, c)

pub array-returns-in_err-next-clause-fault : goal.array-returns-in_err-next-clause-fault
array-returns-in_err-next-clause-fault t c =
    passed_on c.from_residual-in_err-next.result c.in_err-next.field-0.0 (BreaksInside c.args.source.now c.args.start first_item c.args.room) c.from_residual-in_err-next.ensures.1
    (array_breaks c.args.source.now c.args.start c.loop-items.at c.in_ok-item.end c.args.room (map view c.loop-items.items.items) (view c.in_ok-item.item) c.in_err-next.field-0.0
    c.loop-items.invariant c.in_ok-item.ensures.read c.in_err-next.ensures.stands)

pub array-returns-in-Bracket-clause-read : goal.array-returns-in-Bracket-clause-read
array-returns-in-Bracket-clause-read t c =
    subst (λ vs. ReadsInside c.args.source.now c.args.start first_item c.in-Bracket.next c.args.room (array (items_of vs)))
    (sym (ap (λ xs. map view xs) c.in_ok-push.ensures.items ∙ map-append view c.loop-items.items.items (c.in_ok-item.item ∷ [])))
    (array_closes c.args.source.now c.args.start c.loop-items.at c.in_ok-item.end c.in-Bracket.next c.args.room (map view c.loop-items.items.items) (view c.in_ok-item.item)
    c.loop-items.invariant c.in_ok-item.ensures.read (subst (λ p. IsBehind c.args.source.now c.in_ok-item.end 93 (Ok p)) c.in-Bracket.is c.in_ok-next.ensures.stands))

pub array-loop-items-preserved : goal.array-loop-items-preserved
array-loop-items-preserved t c =
    subst (λ vs. HasItems c.args.source.now c.args.start c.in-Comma.next c.args.room vs)
    (sym (ap (λ xs. map view xs) c.in_ok-push.ensures.items ∙ map-append view c.loop-items.items.items (c.in_ok-item.item ∷ [])))
    (items_go_on c.args.source.now c.args.start c.loop-items.at c.in_ok-item.end c.in-Comma.next c.args.room (map view c.loop-items.items.items) (view c.in_ok-item.item)
    c.loop-items.invariant c.in_ok-item.ensures.read (subst (λ p. IsBehind c.args.source.now c.in_ok-item.end 93 (Ok p)) c.in-Comma.is c.in_ok-next.ensures.stands)
    (let within = subst (λ p. (c.in_ok-item.end < place_of p) × (place_of p ≤ length c.args.source.now)) c.in-Comma.is c.in_ok-next.ensures.within in
    omega (arith, c.loop-items.invariant.forward, c.in_ok-item.ensures.within.0, within.0)))

pub members-returns-in_err-at-clause-fault : goal.members-returns-in_err-at-clause-fault
members-returns-in_err-at-clause-fault t c =
    passed_on c.from_residual.result c.in_err-at.field-0.0 (BreaksInside c.args.source.now c.args.start first_key c.args.room) c.from_residual.ensures.1
    (object_cut c.args.source.now c.args.start c.args.room c.in_err-at.field-0.0 c.in_err-at.ensures.fault)

pub members-returns-then-first-eq125-clause-read : goal.members-returns-then-first-eq125-clause-read
members-returns-then-first-eq125-clause-read t c =
    subst (λ ms. ReadsInside c.args.source.now c.args.start first_key (c.in_ok-at.at + 1) c.args.room (object (members_of ms))) (sym (ap (λ xs. map pair_view xs) c.requires.1.1.1.0))
    (object_empty c.args.source.now c.args.start c.in_ok-at.at c.in_ok-at.first c.args.room c.in_ok-at.ensures.found c.if-first-eq125.true)

pub members-loop-key-init : goal.members-loop-key-init
members-loop-key-init t c =
    subst (λ ms. HasMembers c.args.source.now c.args.start c.in_ok-at.at c.args.room ms (knows c.args.places.now)) (sym (ap (λ xs. map pair_view xs) c.requires.1.1.1.0))
    (members_begin c.args.source.now c.args.start c.in_ok-at.at c.in_ok-at.first c.args.room (knows c.args.places.now) c.in_ok-at.ensures.found c.if-first-eq125.false
    c.in_ok-at.ensures.within.0 c.requires.1.1.1.1)

pub members-returns-in_err-key-clause-fault : goal.members-returns-in_err-key-clause-fault
members-returns-in_err-key-clause-fault t c = grind (arith, t, c)

pub members-returns-in_err-value-clause-fault : goal.members-returns-in_err-value-clause-fault
members-returns-in_err-value-clause-fault t c = grind (arith, t, c)

pub members-returns-in_err-next-clause-fault : goal.members-returns-in_err-next-clause-fault
members-returns-in_err-next-clause-fault t c =
    passed_on c.from_residual-in_err-next.result c.in_err-next.field-0.0 (BreaksInside c.args.source.now c.args.start first_key c.args.room) c.from_residual-in_err-next.ensures.1
    (object_breaks c.args.source.now c.args.start c.loop-key.at c.in_ok-value.end c.args.room (map pair_view c.loop-key.pairs.items) (knows c.loop-key.places) (string_bytes c.in_ok-key.key) (view c.in_ok-value.value) c.in_err-next.field-0.0
    c.loop-key.invariant (member_read c.args.source.now c.loop-key.at c.in_ok-key.colon c.in_ok-value.end c.args.room (knows c.loop-key.places) (string_bytes c.in_ok-key.key) (view c.in_ok-value.value) c.in_ok-key.ensures.read c.in_ok-value.ensures.read) c.in_err-next.ensures.stands)

pub members-returns-in-Bracket-clause-read : goal.members-returns-in-Bracket-clause-read
members-returns-in-Bracket-clause-read t c =
    subst (λ ms. ReadsInside c.args.source.now c.args.start first_key c.in-Bracket.next c.args.room (object (members_of ms)))
    (sym (ap (λ xs. map pair_view xs) c.in_ok-push.ensures.items ∙ map-append pair_view c.loop-key.pairs.items _
    ∙ ap (λ (m : Member). map pair_view c.loop-key.pairs.items ++ m ∷ []) (view-pair c.in_ok-key.key c.in_ok-value.value)))
    (object_closes c.args.source.now c.args.start c.loop-key.at c.in_ok-value.end c.in-Bracket.next c.args.room (map pair_view c.loop-key.pairs.items) (knows c.loop-key.places) (string_bytes c.in_ok-key.key) (view c.in_ok-value.value)
    c.loop-key.invariant (member_read c.args.source.now c.loop-key.at c.in_ok-key.colon c.in_ok-value.end c.args.room (knows c.loop-key.places) (string_bytes c.in_ok-key.key) (view c.in_ok-value.value) c.in_ok-key.ensures.read c.in_ok-value.ensures.read) (subst (λ p. IsBehind c.args.source.now c.in_ok-value.end 125 (Ok p)) c.in-Bracket.is c.in_ok-next.ensures.stands))

pub members-loop-key-preserved : goal.members-loop-key-preserved
members-loop-key-preserved t c =
    subst (λ ms. HasMembers c.args.source.now c.args.start c.in-Comma.next c.args.room ms (knows c.key.new.places))
    (sym (ap (λ xs. map pair_view xs) c.in_ok-push.ensures.items ∙ map-append pair_view c.loop-key.pairs.items _
    ∙ ap (λ (m : Member). map pair_view c.loop-key.pairs.items ++ m ∷ []) (view-pair c.in_ok-key.key c.in_ok-value.value)))
    (members_go_on c.args.source.now c.args.start c.loop-key.at c.in_ok-value.end c.in-Comma.next c.args.room (map pair_view c.loop-key.pairs.items) (knows c.loop-key.places) (knows c.key.new.places) (string_bytes c.in_ok-key.key) (view c.in_ok-value.value)
    c.loop-key.invariant (member_read c.args.source.now c.loop-key.at c.in_ok-key.colon c.in_ok-value.end c.args.room (knows c.loop-key.places) (string_bytes c.in_ok-key.key) (view c.in_ok-value.value) c.in_ok-key.ensures.read c.in_ok-value.ensures.read) c.in_ok-key.ensures.known (subst (λ p. IsBehind c.args.source.now c.in_ok-value.end 125 (Ok p)) c.in-Comma.is c.in_ok-next.ensures.stands)
    (let within = subst (λ p. (c.in_ok-value.end < place_of p) × (place_of p ≤ length c.args.source.now)) c.in-Comma.is c.in_ok-next.ensures.within in
    omega (arith, c.loop-key.invariant.forward, c.in_ok-key.ensures.within.0, c.in_ok-value.ensures.within.0, within.0)))

pub value-returns-in_err-at-clause-fault : goal.value-returns-in_err-at-clause-fault
value-returns-in_err-at-clause-fault t c =
    passed_on c.from_residual.result c.in_err-at.field-0.0 (BreaksValue c.args.source.now c.args.start c.args.room) c.from_residual.ensures.1
    (value_cut c.args.source.now c.args.start c.args.room c.in_err-at.field-0.0 c.in_err-at.ensures.fault)

pub value-returns-in_err-less-in-91-clause-fault : goal.value-returns-in_err-less-in-91-clause-fault
value-returns-in_err-less-in-91-clause-fault t c =
    passed_on c.from_residual-in_err-less-in-91.result c.in_err-less-in-91.field-0.0 (BreaksValue c.args.source.now c.args.start c.args.room) c.from_residual-in_err-less-in-91.ensures.1
    (too_deep c.args.source.now c.args.start c.in_ok-at.at c.args.room c.in_ok-at.first 91 first_item c.in_err-less-in-91.field-0.0 open_array c.in_ok-at.ensures.found
    c.in-91.is c.in_err-less-in-91.ensures.fault.0 c.in_err-less-in-91.ensures.fault.1)

pub value-returns-in_err-items-in-91-clause-fault : goal.value-returns-in_err-items-in-91-clause-fault
value-returns-in_err-items-in-91-clause-fault t c =
    passed_on c.from_residual-in_err-items-in-91.result c.in_err-items-in-91.field-0.0 (BreaksValue c.args.source.now c.args.start c.args.room) c.from_residual-in_err-items-in-91.ensures.1
    (inside_breaks c.args.source.now c.args.start c.in_ok-at.at c.args.room c.in_ok-less-in-91.less c.in_ok-at.first 91 first_item c.in_err-items-in-91.field-0.0 open_array
    c.in_ok-at.ensures.found c.in-91.is c.in_ok-less-in-91.ensures.less c.in_err-items-in-91.ensures.fault)

pub value-returns-in_ok-items-in-91-clause-read : goal.value-returns-in_ok-items-in-91-clause-read
value-returns-in_ok-items-in-91-clause-read t c =
    subst (λ v. ReadsValue c.args.source.now c.args.start c.in_ok-items-in-91.end c.args.room v) (sym (view-array c.shrink_to_fit.new.self))
    (subst (λ xs. ReadsValue c.args.source.now c.args.start c.in_ok-items-in-91.end c.args.room (array (items_of (map view xs)))) (sym c.shrink_to_fit.ensures.items)
    (inside_read c.args.source.now c.args.start c.in_ok-at.at c.in_ok-items-in-91.end c.args.room c.in_ok-less-in-91.less c.in_ok-at.first 91 first_item _ open_array
    c.in_ok-at.ensures.found c.in-91.is c.in_ok-less-in-91.ensures.less c.in_ok-items-in-91.ensures.read))

pub value-returns-in_err-less-in-123-clause-fault : goal.value-returns-in_err-less-in-123-clause-fault
value-returns-in_err-less-in-123-clause-fault t c =
    passed_on c.from_residual-in_err-less-in-123.result c.in_err-less-in-123.field-0.0 (BreaksValue c.args.source.now c.args.start c.args.room) c.from_residual-in_err-less-in-123.ensures.1
    (too_deep c.args.source.now c.args.start c.in_ok-at.at c.args.room c.in_ok-at.first 123 first_key c.in_err-less-in-123.field-0.0 open_object c.in_ok-at.ensures.found
    c.in-123.is c.in_err-less-in-123.ensures.fault.0 c.in_err-less-in-123.ensures.fault.1)

pub value-returns-in_err-pairs-in-123-clause-fault : goal.value-returns-in_err-pairs-in-123-clause-fault
value-returns-in_err-pairs-in-123-clause-fault t c =
    passed_on c.from_residual-in_err-pairs-in-123.result c.in_err-pairs-in-123.field-0.0 (BreaksValue c.args.source.now c.args.start c.args.room) c.from_residual-in_err-pairs-in-123.ensures.1
    (inside_breaks c.args.source.now c.args.start c.in_ok-at.at c.args.room c.in_ok-less-in-123.less c.in_ok-at.first 123 first_key c.in_err-pairs-in-123.field-0.0 open_object
    c.in_ok-at.ensures.found c.in-123.is c.in_ok-less-in-123.ensures.less c.in_err-pairs-in-123.ensures.fault)

pub value-returns-in_ok-pairs-in-123-clause-read : goal.value-returns-in_ok-pairs-in-123-clause-read
value-returns-in_ok-pairs-in-123-clause-read t c =
    subst (λ v. ReadsValue c.args.source.now c.args.start c.in_ok-pairs-in-123.end c.args.room v) (sym (view-object c.shrink_to_fit-in-123.new.self))
    (subst (λ xs. ReadsValue c.args.source.now c.args.start c.in_ok-pairs-in-123.end c.args.room (object (members_of (map pair_view xs)))) (sym c.shrink_to_fit-in-123.ensures.items)
    (inside_read c.args.source.now c.args.start c.in_ok-at.at c.in_ok-pairs-in-123.end c.args.room c.in_ok-less-in-123.less c.in_ok-at.first 123 first_key _ open_object
    c.in_ok-at.ensures.found c.in-123.is c.in_ok-less-in-123.ensures.less c.in_ok-pairs-in-123.ensures.read))

pub object-members-requires : goal.object-members-requires
object-members-requires t c = (search rules, (search rules, (c.new-pairs.ensures.items, knows_nothing c.new-places.result c.new-places.ensures.empty)))
