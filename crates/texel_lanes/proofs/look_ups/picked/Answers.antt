use Rattle.texel_lanes.proofs.LaneLaws.{may_look_up, looked_up, own}
use Rattle.texel_lanes.proofs.look_ups.picked.Goals as goal

pub swizzle : goal.swizzle
swizzle c = may_look_up c.args.places _ (own 16 _ c.fits-places.0) c.requires

pub returns : goal.returns
returns c = looked_up c.args.places _ (own 16 _ c.fits-places.0) c.requires c.args.table
