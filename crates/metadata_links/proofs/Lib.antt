mod Following
mod Items
mod Members
mod States
mod Trees
mod Walks
