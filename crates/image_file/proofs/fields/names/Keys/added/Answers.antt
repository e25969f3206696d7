use Rattle.std.proofs.Common.{◌≡◌, ◌∙◌, ◌++◌, ◌∷◌, [], ap, not, map, bytes_eq}
use Rattle.std.specs.List.{list_any}
use Rattle.std.specs.Char.{to_ascii_lowercase}
use Rattle.image_file.proofs.KeyLists.{any_items, pushed}
use Rattle.image_file.proofs.fields.names.Keys.added.Goals as goal

pub returns-clause-said : goal.returns-clause-said
returns-clause-said c =
    let any : list_any (λ k. bytes_eq c.in_ok-key.key.items k.items) c.self.inside.keys.keys ≡ list_any
    (bytes_eq (map to_ascii_lowercase c.args.name.now)) c.args.self.now =
    any_items (λ k. k.items) c.in_ok-key.key.items c.self.inside.keys.keys
    ∙ ap (λ n. list_any (bytes_eq n) (map (λ k. k.items) c.self.inside.keys.keys)) c.in_ok-key.ensures.ok
    ∙ ap (list_any (bytes_eq (map to_ascii_lowercase c.args.name.now))) c.self.view_is in
    c.in_ok-_place.ensures.added ∙ ap not any

pub returns-clause-added : goal.returns-clause-added
returns-clause-added c = λ absent.
    let any : list_any (λ k. bytes_eq c.in_ok-key.key.items k.items) c.self.inside.keys.keys ≡ list_any
    (bytes_eq (map to_ascii_lowercase c.args.name.now)) c.args.self.now =
    any_items (λ k. k.items) c.in_ok-key.key.items c.self.inside.keys.keys
    ∙ ap (λ n. list_any (bytes_eq n) (map (λ k. k.items) c.self.inside.keys.keys)) c.in_ok-key.ensures.ok
    ∙ ap (list_any (bytes_eq (map to_ascii_lowercase c.args.name.now))) c.self.view_is in
    ap (map (λ k. k.items)) c.in_ok-_place.ensures.keys
    ∙ pushed (λ k. k.items) c.self.inside.keys.keys c.in_ok-key.key (list_any (λ k. bytes_eq c.in_ok-key.key.items k.items) c.self.inside.keys.keys)
    (any ∙ absent)
    ∙ ap (λ s. s ++ c.in_ok-key.key.items ∷ []) c.self.view_is
    ∙ ap (λ n. c.args.self.now ++ n ∷ []) c.in_ok-key.ensures.ok
